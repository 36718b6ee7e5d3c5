-- Fields that stand side by side form a stretch: a record's fields are clean where its stretches are.
-- Assumes nothing.
use mathlib.Core.Path.{◌≡◌, refl, sym, ◌∙◌}
use mathlib.Core.Bool.{Bool, true, false}
use mathlib.Core.List.{List, [], ◌∷◌, ◌++◌}
use Prim.Native.Nat.{ℕ, ◌+◌, ◌-◌}
use lib.Dec.{eqb, leb}
use lib.ListN.{drop}
use borrow.Author.Tests.{eqb-true}
use Rattle.record.specs.declared.Field.{Field}
use Rattle.record.specs.declared.codes.Code.{Code}
use Rattle.record.specs.declared.Justification.TheVariants.{Fixed}
use Rattle.record.specs.Choice.{◌and◌, ◌or◌, choose}
use Rattle.record.specs.Fields.{fixed}
use Rattle.record.specs.Value.{written}
use Rattle.record.specs.Tests.{every, valid}
use Rattle.record.specs.Codes.{code_of}
use Rattle.record.specs.Layout.{Row, layout, Record as Kind}
use Rattle.record.proofs.Chain.{or_true}
use Rattle.record.proofs.Every.{every_take, every_drop}
use Rattle.record.proofs.Held.{written_beside}
use Rattle.nesting.specs.Division.{Record}
use Rattle.characters.specs.Characters.{rows_of, clean_in, clean}

-- a field put before stretches: one stretch with the first of them where that begins right behind it
glued : Field → List Field → List Field
glued f [] = f ∷ []
glued f (g ∷ gs) =
    choose (eqb (f.start - 1 + f.width) (g.start - 1)) (record { start = f.start; width = f.width + g.width; justification = Fixed } ∷ gs) (f ∷ g ∷ gs)

-- the stretches of a table's fields that are no fillers
stretches : List Row → List Field
stretches [] = []
stretches (row ∷ rows) = choose row.unused (stretches rows) (glued row.position (stretches rows))

-- no byte of a stretch is below hex 40
unfoldable pub all_valid : Record → List Field → Bool
all_valid r [] = true
all_valid r (f ∷ fs) = valid (written r f) and all_valid r fs

and_assoc : (a b c : Bool) → ((a and b) and c) ≡ (a and (b and c))
unfolding ◌and◌
and_assoc true b c = refl
and_assoc false b c = refl

every_append : (q : ℕ → Bool) (xs ys : List ℕ) → every q (xs ++ ys) ≡ (every q xs and every q ys)
unfolding every ◌and◌
every_append q [] ys = refl
every_append q (x ∷ xs) ys = rw (every_append q xs ys) (sym (and_assoc (q x) (every q xs) (every q ys)))

valid_glued : (r : Record) (f g : Field) → f.start - 1 + f.width ≡ g.start - 1
    → valid (written r (record { start = f.start; width = f.width + g.width; justification = Fixed })) ≡ (valid (written r f) and valid (written r g))
unfolding valid
valid_glued r f g e = rw (written_beside r f g e) (every_append (λ (x : ℕ). leb 0x40 x) (written r f) (written r g))

all_glued : (r : Record) (f : Field) (gs : List Field) → all_valid r (glued f gs) ≡ (valid (written r f) and all_valid r gs)
unfolding glued all_valid choose
all_glued r f [] = refl
all_glued r f (g ∷ gs) = go (eqb (f.start - 1 + f.width) (g.start - 1)) refl
  where
    go : (t : Bool) → eqb (f.start - 1 + f.width) (g.start - 1) ≡ t → all_valid r (glued f (g ∷ gs)) ≡ (valid (written r f) and all_valid r (g ∷ gs))
    go true e = rw (e, valid_glued r f g (eqb-true _ _ e)) (and_assoc (valid (written r f)) (valid (written r g)) (all_valid r gs))
    go false e = rw e

row_covered : (r : Record) (row : Row) (rows : List Row) → all_valid r (stretches rows) ≡ clean_in r rows
    → (t : Bool) → row.unused ≡ t → all_valid r (stretches (row ∷ rows)) ≡ clean_in r (row ∷ rows)
unfolding stretches clean_in choose ◌or◌ ◌and◌
row_covered r row rows h true e = rw e h
row_covered r row rows h false e = rw (e, ← h) (all_glued r row.position (stretches rows))

-- the stretches cover the fields that are no fillers, and nothing else
covered : (r : Record) (rows : List Row) → all_valid r (stretches rows) ≡ clean_in r rows
unfolding stretches all_valid clean_in
covered r [] = refl
covered r (row ∷ rows) = row_covered r row rows (covered r rows) row.unused refl

-- a stretch by its first position and its width
abbrev stretch : ℕ → ℕ → Field
stretch s w = fixed s w

-- the stretches of each record, between the fillers of 01 Bytes: what the code has constants for
unfoldable pub stretches_of : Kind → List Field
stretches_of Kind.FileHeader = stretch 1 45 ∷ []
stretches_of Kind.BatchHeader = stretch 1 56 ∷ stretch 60 55 ∷ []
stretches_of Kind.Detail = stretch 1 676 ∷ []
stretches_of Kind.Party = stretch 1 350 ∷ []
stretches_of Kind.Account = stretch 1 75 ∷ []
stretches_of Kind.Procurement = stretch 1 150 ∷ []
stretches_of Kind.BatchTrailer = stretch 1 30 ∷ []
stretches_of Kind.FileTrailer = stretch 1 58 ∷ []

stretches_are : (k : Kind) → stretches (layout k) ≡ stretches_of k
unfolding stretches glued layout choose stretches_of
stretches_are Kind.FileHeader = refl
stretches_are Kind.BatchHeader = refl
stretches_are Kind.Detail = refl
stretches_are Kind.Party = refl
stretches_are Kind.Account = refl
stretches_are Kind.Procurement = refl
stretches_are Kind.BatchTrailer = refl
stretches_are Kind.FileTrailer = refl

-- what the stretches of a record say is what its fields do
pub covers : (r : Record) (k : Kind) (v : Bool) → v ≡ all_valid r (stretches_of k) → v ≡ clean_in r (layout k)
covers r k v h = h ∙ rw (← stretches_are k) (covered r (layout k))

-- the last stretch of a list
pub last : (v b : Bool) → v ≡ b → v ≡ (b and true)
unfolding ◌and◌
last v true h = h
last v false h = h

-- what its fields say, its code being known, is what the record does
pub coded : (r : Record) (c d : Code) (v : Bool) → c ≡ code_of r → c ≡ d → v ≡ clean_in r (rows_of d) → v ≡ clean r
unfolding clean
coded r c d v e k h = rw (← e, k) h

-- bytes of which none is low: no part of them has one
written_valid_holds : (r : Record) (f : Field) → valid r ≡ true → valid (written r f) ≡ true
unfolding valid written
written_valid_holds r f h = every_take _ f.width (drop (f.start - 1) r) (every_drop _ (f.start - 1) r h)

rows_clean : (r : Record) (rows : List Row) → valid r ≡ true → clean_in r rows ≡ true
unfolding clean_in ◌and◌
rows_clean r [] h = refl
rows_clean r (row ∷ rows) h = rw (written_valid_holds r row.position h, or_true row.unused) (rows_clean r rows h)

-- so a record of which no byte is low is clean
pub valid_clean : (r : Record) → valid r ≡ true → clean r ≡ true
unfolding clean
valid_clean r h = rows_clean r (rows_of (code_of r)) h
