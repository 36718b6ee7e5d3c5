-- The hash of an ID: no step wraps, and one word more; and that of a record's.
-- Assumes nothing.
use mathlib.Core.Path.{◌≡◌, refl, ap, ◌∙◌}
use mathlib.Core.Bool.{Bool}
use mathlib.Core.List.{List}
use Prim.Native.Nat.{ℕ, ◌+◌, ◌-◌, ◌*◌, ◌/◌, ◌%◌, ◌≤◌, ◌<◌}
use native.Mathlib.Numerals.{add-one}
use native.Mathlib.Omega.{arith}
use Rattle.record.specs.declared.Field.{Field}
use Rattle.page.specs.CodePage.{shown}
use Rattle.record.specs.Value.{held}
use Rattle.nesting.specs.Division.{Record}
use Rattle.nesting.specs.Records.{record_at}
use Rattle.nesting.proofs.Cuts.{record_from, from_place}
use Rattle.repeats.specs.Sieve.{word_of, mixed, hash_to, hash_of}

-- the room of a step, in laws of one or two numbers each: together they pass the digits that omega takes
low_room : (a : ℕ) → a ≤ 4294967295 → a * 2654435761 ≤ 11400714816668762895
low_room a h = omega arith

sum_room : (x y : ℕ) → x ≤ 11400714816668762895 → y ≤ 4294967295 → x + y < 18446744073709551616 - 4294967296
sum_room x y a b = omega arith

mix_room : (h : ℕ) → h < 18446744073709551616 → h % 4294967296 * 2654435761 + h / 4294967296 < 18446744073709551616 - 4294967296
mix_room h l = sum_room (h % 4294967296 * 2654435761) (h / 4294967296) (low_room (h % 4294967296) (omega arith)) (omega arith)

smaller : (x : ℕ) → x < 18446744073709551616 - 4294967296 → x < 18446744073709551616
smaller x h = omega arith

with_word : (x w : ℕ) → x < 18446744073709551616 - 4294967296 → w < 4294967296 → x + w < 18446744073709551616
with_word x w h l = omega arith

pub halves_fit : (h : ℕ) → h < 18446744073709551616 → h % 4294967296 * 2654435761 + h / 4294967296 < 18446744073709551616
halves_fit h l = smaller _ (mix_room h l)

pub word_fits : (h w : ℕ) → h < 18446744073709551616 → w < 4294967296 → h % 4294967296 * 2654435761 + h / 4294967296 + w < 18446744073709551616
word_fits h w l m = with_word _ w (mix_room h l) m

-- the hash of the first words
pub hash_none : (id : List ℕ) → 0 ≡ hash_to id 0
unfolding hash_to
hash_none id = refl

pub hash_next : (id : List ℕ) (k h w r : ℕ) → h ≡ hash_to id k → w ≡ word_of id (k * 4) → r ≡ mixed h w → r ≡ hash_to id (k + 1)
unfolding hash_to
hash_next id k h w r a b e = e ∙ rw (add-one, a, b)

pub hash_end : (id : List ℕ) (k h g r : ℕ) → k ≤ 5 → 5 ≤ k → h ≡ hash_to id k → g ≡ mixed h 0 → r ≡ mixed g 0 → r ≡ hash_of id
unfolding hash_of
hash_end id k h g r l m a b e =
    let q : k ≡ 5 = omega arith in
    e ∙ rw (b, a, q)

pub copy_hash : (id copy : List ℕ) (h : ℕ) → copy ≡ id → h ≡ hash_of copy → h ≡ hash_of id
copy_hash id copy h e q = q ∙ ap hash_of e

-- the hash of the ID of the record at a place
pub hash_there : (ascii : Bool) (first place : ℕ) (xs : List ℕ) (f : Field) (h : ℕ) → h ≡ hash_of (held (record_from ascii xs (place * 850)) f)
    → h ≡ hash_of (held (record_at first place (shown ascii xs)) f)
hash_there ascii first place xs f h e = e ∙ ap (λ (r : Record). hash_of (held r f)) (from_place ascii first place xs)
