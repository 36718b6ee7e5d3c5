use Rattle.record.proofs.Chain.{reads}
use Rattle.repeats.proofs.Classes.{tried_new, tried_walked, grow, sifted_length}
use borrow.Author.Rules.{rules}
use Rattle.repeats.proofs.sieve.try_at.Goals as goal

pub returns-then-not-sift : goal.returns-then-not-sift
returns-then-not-sift c = search (rules, tried_new, sifted_length, grow, reads)

pub returns-then-walks-gt-WALKS : goal.returns-then-walks-gt-WALKS
returns-then-walks-gt-WALKS c = search (rules, sifted_length, grow, reads)

pub returns : goal.returns
returns c = search (rules, tried_walked, sifted_length, grow, reads)
