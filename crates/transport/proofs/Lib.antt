mod Tables
mod Asked
