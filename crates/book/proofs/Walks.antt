-- The walks over a section's entries: what is left decides.
-- Assumes nothing.
use mathlib.Core.Path.{◌≡◌, refl, sym, ◌∙◌}
use mathlib.Core.Bool.{Bool, true, false}
use mathlib.Core.List.{List}
use Prim.Native.Nat.{ℕ, zero, suc, ◌+◌, ◌-◌, ◌*◌, ◌≤◌, ◌<◌}
use native.Mathlib.Numerals.{add-one}
use native.Mathlib.Omega.{arith}
use lib.Dec.{leb}
use borrow.Author.Tests.{le-leb, lt-leb}
use lib.ListN.{length, take, drop, get_or, length-take, length-drop}
use lib.Seq.{slice-cons, slice_empty, get_or-drop}
use Rattle.std.specs.Prelude.{◌==◌}
use Rattle.std.specs.Ordering.{ordering_index}
use Rattle.std.specs.declared.cmp.Ordering.{Ordering}
use Rattle.std.specs.declared.cmp.Ordering.TheVariants.{Less, Equal, Greater}
use Rattle.record.specs.Choice.{◌and◌}
use Rattle.record.specs.Fields.{text}
use Rattle.record.specs.Tests.{every}
use Rattle.record.specs.Ordering.{order, is_after, is_before}
use Rattle.record.proofs.Held.{held_length}
use Rattle.words.proofs.Afters.{after_before}
use Rattle.book.specs.declared.Section.{Section}
use Rattle.book.specs.Book.{entry_code, flagged, follow, ascend, cut, entries_at}
use Rattle.book.specs.Reading.{flags}
use Rattle.book.proofs.Bytes.{before, next_place, cut_next, cut_none}

-- an entry whose only byte after the code is its flag, and one that has none
flag_one : (bs : List ℕ) (at code entry : ℕ) → entry ≡ code + 1 → at + entry ≤ length bs → flagged code (take entry (drop at bs)) ≡ (leb (get_or bs (at + code) 0) 1 and true)
unfolding flagged every
flag_one bs at code entry e h =
    let n : suc code ≤ length (drop at bs) = simp length-drop (omega arith) in
    let m : entry ≡ suc code = e ∙ add-one code in
    rw (m, slice-cons code (suc code) (drop at bs) 0 (omega arith) n, slice_empty (suc code) (drop at bs), get_or-drop at bs code 0)

flag_none : (code : ℕ) (xs : List ℕ) → flagged code (take code xs) ≡ true
unfolding flagged every
flag_none code xs = rw (slice_empty code xs)

no_flags : (w n : ℕ) (xs : List ℕ) → flags w (cut w n xs) ≡ true
unfolding flags cut ◌and◌
no_flags w zero xs = refl
no_flags w (suc n) xs = rw (flag_none w xs) (no_flags w n (drop w xs))

-- flags, from the front: those of the entries from i on are left
unfoldable pub FlagsLeft : List ℕ → Section → ℕ → Type 0
FlagsLeft bs s i = flags s.code (entries_at bs s) ≡ flags s.code (cut s.entry (s.count - i) (drop (s.start + i * s.entry) bs))

-- an entry of a section lies in it
pub entry_within : (s : Section) (i : ℕ) → i < s.count → s.start + i * s.entry + s.entry ≤ s.start + s.count * s.entry
entry_within s i h = omega (arith, before i s.count s.entry h)

module _ (bs : List ℕ) (s : Section) where
  pub flags_none : s.code ≡ s.entry → true ≡ flags s.code (entries_at bs s)
  unfolding entries_at
  flags_none e = rw e (sym (no_flags s.entry s.count (drop s.start bs)))

  pub flags_start : FlagsLeft bs s 0
  unfolding FlagsLeft entries_at
  flags_start =
      let m : s.count - 0 ≡ s.count = omega arith in
      let n : s.start + 0 * s.entry ≡ s.start = omega arith in
      rw (m, n)

  module _ (i : ℕ) (h : i < s.count) (w : s.start + s.count * s.entry ≤ length bs) (c : s.code ≤ s.entry) (d : s.entry ≤ s.code + 1)
      (e : s.code ≡ s.entry → ⊥) (l : FlagsLeft bs s i) where
    here : s.entry ≡ s.code + 1
    here = omega (arith, e)

    inside : s.start + i * s.entry + s.entry ≤ length bs
    inside = omega (arith, entry_within s i h)

    pub flags_next : get_or bs (s.start + i * s.entry + s.code) 0 ≤ 1 → FlagsLeft bs s (i + 1)
    unfolding FlagsLeft flags ◌and◌
    flags_next k =
        let at = s.start + i * s.entry in
        l ∙ rw (cut_next s.entry s.count i bs at h, flag_one bs at s.code s.entry here inside, le-leb (get_or bs (at + s.code) 0) 1 k, next_place s.start i s.entry at refl)

    pub flags_stop : 1 < get_or bs (s.start + i * s.entry + s.code) 0 → false ≡ flags s.code (entries_at bs s)
    unfolding FlagsLeft flags ◌and◌
    flags_stop k =
        let at = s.start + i * s.entry in
        sym (l ∙ rw (cut_next s.entry s.count i bs at h, flag_one bs at s.code s.entry here inside, lt-leb (get_or bs (at + s.code) 0) 1 k))

  pub flags_end : (i : ℕ) → s.count ≤ i → FlagsLeft bs s i → true ≡ flags s.code (entries_at bs s)
  unfolding FlagsLeft flags
  flags_end i h l = sym (l ∙ rw (cut_none s.entry s.count i (drop (s.start + i * s.entry) bs) h))

-- order, from the front: the entry before i is held against those that are left
unfoldable pub CodesLeft : List ℕ → Section → ℕ → Type 0
CodesLeft bs s i = ascend s.code (entries_at bs s) ≡ ascend s.code (cut s.entry (s.count + 1 - i) (drop (s.start + (i - 1) * s.entry) bs))

-- two entries of a section that stand one after another lie in it
pub pair_within : (s : Section) (i : ℕ) → 1 ≤ i → i < s.count → s.start + (i - 1) * s.entry + s.entry + s.entry ≤ s.start + s.count * s.entry
pair_within s i g h =
    let m : i - 1 + 1 ≡ i = omega arith in
    omega (arith, rw m at (next_place s.start (i - 1) s.entry (s.start + (i - 1) * s.entry) refl), before i s.count s.entry h)

module _ (bs : List ℕ) (s : Section) where
  pub codes_start : CodesLeft bs s 1
  unfolding CodesLeft entries_at
  codes_start =
      let m : s.count + 1 - 1 ≡ s.count = omega arith in
      let n : s.start + (1 - 1) * s.entry ≡ s.start = omega arith in
      rw (m, n)

  module _ (i : ℕ) (r : Bool) (g : 1 ≤ i) (h : i < s.count) (l : CodesLeft bs s i)
      (e : r ≡ is_before (order (entry_code s.code (take s.entry (drop (s.start + (i - 1) * s.entry) bs))) (entry_code s.code (take s.entry (drop (s.start + (i - 1) * s.entry + s.entry) bs))))) where
    abbrev at : ℕ
    at = s.start + (i - 1) * s.entry

    next : at + s.entry ≡ s.start + (i + 1 - 1) * s.entry
    next =
        let m : i - 1 + 1 ≡ i + 1 - 1 = omega arith in
        rw (← m) (next_place s.start (i - 1) s.entry at refl)

    pair : ascend s.code (cut s.entry (s.count + 1 - i) (drop at bs)) ≡ (r and ascend s.code (cut s.entry (s.count + 1 - (i + 1)) (drop (at + s.entry) bs)))
    unfolding ascend follow
    pair =
        let m : s.count + 1 - (i + 1) ≡ s.count - i = omega arith in
        rw (cut_next s.entry (s.count + 1) i bs at (omega arith), m, cut_next s.entry s.count i bs (at + s.entry) h, e)

    pub codes_next : r ≡ true → CodesLeft bs s (i + 1)
    unfolding CodesLeft ◌and◌
    codes_next t = l ∙ pair ∙ rw (t, next)

    pub codes_stop : r ≡ false → false ≡ ascend s.code (entries_at bs s)
    unfolding CodesLeft ◌and◌
    codes_stop t = sym (l ∙ pair ∙ rw t)

  pub codes_end : (i : ℕ) → 1 ≤ i → s.count ≤ i → CodesLeft bs s i → true ≡ ascend s.code (entries_at bs s)
  unfolding CodesLeft cut ascend follow
  codes_end i g h l = sym (l ∙ go (s.count + 1 - i) (omega arith))
    where
      go : (n : ℕ) → n ≤ 1 → ascend s.code (cut s.entry n (drop (s.start + (i - 1) * s.entry) bs)) ≡ true
      go zero k = refl
      go (suc zero) k = refl
      go (suc (suc n)) k = absurd (omega (arith, k))

-- the derived test of an order
pub less_before : (o : Ordering) → (ordering_index o == 0) ≡ is_before o
unfolding is_before
less_before Less = refl
less_before Equal = refl
less_before Greater = refl

-- two entries, as the code takes them out of the book
module _ (bs : List ℕ) (at entry code : ℕ) where
  abbrev pub own : List ℕ
  own = take (at + entry - at) (drop at bs)

  abbrev pub other : List ℕ
  other = take (at + entry + entry - (at + entry)) (drop (at + entry) bs)

  pub pair_told : (r : Bool) → r ≡ is_before (order (entry_code code own) (entry_code code other))
      → r ≡ is_before (order (entry_code code (take entry (drop at bs))) (entry_code code (take entry (drop (at + entry) bs))))
  pair_told r e =
      let m : at + entry - at ≡ entry = omega arith in
      let n : at + entry + entry - (at + entry) ≡ entry = omega arith in
      e ∙ rw (m, n)

  -- each code is as long as a code
  pub own_wide : at + entry + entry ≤ length bs → code ≤ entry → length (entry_code code own) ≡ code
  unfolding entry_code
  own_wide h k =
      let n : length own ≡ entry = simp (length-take, length-drop) (omega arith) in
      held_length false own (text 1 code) (omega arith, omega arith)

  pub other_wide : at + entry + entry ≤ length bs → code ≤ entry → length (entry_code code other) ≡ code
  unfolding entry_code
  other_wide h k =
      let n : length other ≡ entry = simp (length-take, length-drop) (omega arith) in
      held_length false other (text 1 code) (omega arith, omega arith)

  -- the parts of two entries that are their codes
  pub parts_pair : (here there : List ℕ) (r : Bool) → here ≡ entry_code code own → there ≡ entry_code code other → r ≡ is_after (order there here)
      → r ≡ is_before (order (entry_code code (take entry (drop at bs))) (entry_code code (take entry (drop (at + entry) bs))))
  parts_pair here there r e f q = pair_told r (q ∙ after_before here there ∙ rw (e, f))
