use Rattle.record.proofs.Chain.{reads}
use Rattle.repeats.proofs.Classes.{sort_answer, sort_after, class_answer, class_after, own_answer, own_after}
use borrow.Author.Rules.{rules}
use Rattle.repeats.proofs.sieve.sift.Goals as goal

pub returns-then-not-is_of : goal.returns-then-not-is_of
returns-then-not-is_of c = search (rules, sort_answer, sort_after, reads)

pub returns-then-hash-classes : goal.returns-then-hash-classes
returns-then-hash-classes c = search (rules, class_answer, class_after, reads)

pub returns : goal.returns
returns c = search (rules, own_answer, own_after, reads)
