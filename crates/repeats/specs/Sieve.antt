-- A sieve of marks over Payment IDs. No promise to other crates rests on it: an ID that lacks a mark was not seen, whatever the hash.
use Rattle.std.specs.Prelude.{ℕ, zero, suc, ◌+◌, ◌*◌, ◌/◌, ◌%◌, ◌^◌, ◌<◌, ◌≤◌, ◌≡◌, Bool, true, false, List, [], ◌∷◌, eqb, get_or, set}
use Rattle.std.specs.Int.Bits.{bit_or}
use Rattle.record.specs.Choice.{◌and◌, choose}
use Rattle.record.specs.Value.{held}
use Rattle.nesting.specs.Division.{Record}
use Rattle.nesting.specs.Records.{cut, record_at}
use Rattle.repeats.specs.declared.Sort.TheVariants.{Payments}
use Rattle.repeats.specs.Repeats.{numbering, is_of, repeats}

-- a record's Payment ID
abbrev pub id_of : Record → List ℕ
id_of r = held r (numbering Payments)

-- four bytes of an ID as one number
unfoldable pub word_of : List ℕ → ℕ → ℕ
word_of id i = get_or id i 0 + get_or id (i + 1) 0 * 256 + get_or id (i + 2) 0 * 65536 + get_or id (i + 3) 0 * 16777216

-- one word more in a hash: the low half is spread over all bits, the high half is carried
unfoldable pub mixed : ℕ → ℕ → ℕ
mixed hash word = hash % 4294967296 * 2654435761 + hash / 4294967296 + word

-- the hash of the first words
unfoldable pub hash_to : List ℕ → ℕ → ℕ
hash_to id zero = 0
hash_to id (suc k) = mixed (hash_to id k) (word_of id (k * 4))

-- the hash of an ID; any function of the ID would do
unfoldable pub hash_of : List ℕ → ℕ
hash_of id = mixed (mixed (hash_to id 5) 0) 0

-- the sieve with one mark more: a bit for each slot
unfoldable pub marked : List ℕ → ℕ → List ℕ
marked sieve slot = set sieve (slot / 64) (bit_or (get_or sieve (slot / 64) 0) (2 ^ (slot % 64)))

-- the slot has its mark
unfoldable pub is_marked : List ℕ → ℕ → Bool
is_marked sieve slot = eqb (get_or sieve (slot / 64) 0 / 2 ^ (slot % 64) % 2) 1

-- so many marks are there, for what is left of a hash: a slot is its lowest 16 bits, and the next one stands five bits higher
unfoldable pub has_next : List ℕ → ℕ → ℕ → Bool
has_next sieve zero rest = true
has_next sieve (suc left) rest = is_marked sieve (rest % 65536) and has_next sieve left (rest / 32)

-- the sieve with these marks
unfoldable pub with_next : List ℕ → ℕ → ℕ → List ℕ
with_next sieve zero rest = sieve
with_next sieve (suc left) rest = with_next (marked sieve (rest % 65536)) left (rest / 32)

-- the marks of a hash
abbrev pub mark_count : ℕ
mark_count = 7

-- the hash has all its marks
unfoldable pub has_marks : List ℕ → ℕ → Bool
has_marks sieve hash = has_next sieve mark_count hash

-- the sieve with all marks of a hash
unfoldable pub with_marks : List ℕ → ℕ → List ℕ
with_marks sieve hash = with_next sieve mark_count hash

-- the class of an ID, by the bits of its hash that choose no slot
unfoldable pub class_of : ℕ → List ℕ → ℕ
class_of classes id = hash_of id / 562949953421312 % classes

-- the record is a detail of the class
unfoldable pub in_class : ℕ → ℕ → Record → Bool
in_class classes class r = is_of Payments r and eqb (class_of classes (id_of r)) class

-- the record is a detail of the class, and its ID has its marks: it may repeat one
unfoldable pub is_suspect : ℕ → ℕ → List ℕ → Record → Bool
is_suspect classes class sieve r = in_class classes class r and has_marks sieve (hash_of (id_of r))

-- the sieve after the record: a detail of the class has its marks
unfoldable pub sifted : ℕ → ℕ → List ℕ → Record → List ℕ
sifted classes class sieve r = choose (in_class classes class r) (with_marks sieve (hash_of (id_of r))) sieve

-- every detail of the class has its marks
unfoldable pub AllMarked : ℕ → ℕ → List ℕ → List Record → Type 0
AllMarked classes class sieve [] = Unit {0}
AllMarked classes class sieve (r ∷ rs) = (in_class classes class r ≡ true → has_marks sieve (hash_of (id_of r)) ≡ true) × AllMarked classes class sieve rs

-- the record at the place is a detail of the class that repeats an earlier one
unfoldable pub repeats_in : ℕ → ℕ → ℕ → List ℕ → ℕ → Bool
repeats_in classes class first bytes place =
    in_class classes class (record_at first place bytes) and repeats Payments (cut first place bytes) (record_at first place bytes)

-- the suspects of a batch that are walked
abbrev pub most_walks : ℕ
most_walks = 16

-- a trial of that record, the suspects being in the budget
pub record Tried (classes class first : ℕ) (bytes : List ℕ) (place : ℕ) (stops : Bool) (walks : ℕ) : Type 0 where
  pub answer : stops ≡ repeats_in classes class first bytes place
  pub budget : walks ≤ most_walks

-- the first such place before the best, or the best
pub record Passed (classes class first : ℕ) (bytes : List ℕ) (best place : ℕ) : Type 0 where
  pub within : place ≤ best
  pub clean : (k : ℕ) → k < place → repeats_in classes class first bytes k ≡ false
  pub found : place < best → repeats_in classes class first bytes place ≡ true
