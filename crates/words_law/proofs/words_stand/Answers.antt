use Rattle.words_law.proofs.Words.{words}
use Rattle.words_law.proofs.words_stand.Goals as goal

pub returns : goal.returns
returns c = words
