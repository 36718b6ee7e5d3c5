-- A section that stands at a place is read as such, and what is read as a section is one.
-- Assumes nothing.
use mathlib.Core.Path.{◌≡◌, refl, sym, ap, ◌∙◌}
use mathlib.Core.Bool.{Bool, true, false}
use mathlib.Core.List.{List, ◌++◌, append_assoc}
use Prim.Native.Nat.{ℕ, ◌+◌, ◌-◌, ◌*◌, ◌/◌, ◌%◌, ◌≤◌, ◌<◌}
use native.Mathlib.Nat.{mul-div_cancel, mul-mod_left}
use native.Mathlib.Omega.{arith}
use borrow.Author.Tests.{le-leb, eq-eqb}
use lib.ListN.{length, take, drop, length-take, length-drop, length-append, take-append-drop}
use lib.Seq.{take_at, drop_at, drop-drop}
use Rattle.numbers.specs.Numbers.{little, number_in}
use Rattle.numbers.proofs.Laws.{Bytes, little_length, little_number, number_little, bytes_take, bytes_drop}
use Rattle.record.specs.Choice.{◌and◌, choose}
use Rattle.record.proofs.Chain.{and_left, and_right, and_yes, choose_yes}
use Rattle.book.specs.declared.Kind.{Kind}
use Rattle.book.specs.declared.Section.{Section}
use Rattle.std.specs.Prelude.{Some, None}
use Rattle.book.specs.Book.{Entries, joined, section_of, entries_at, Shelved, standing, past}
use Rattle.book.specs.Reading.{Readable, Kinded, size_at, kind_at, framed, section_in, sound_in, section_at}
use Rattle.book.proofs.Entries.{joined_length, cut_joined, each_flags, cut_each, joined_cut}
use Rattle.book.proofs.Frames.{Frame, frame_of}

-- a section of k with entries es stands at a place, is found there, can be looked up in, and rest follows it
pub record Stood (bs : List ℕ) (at : ℕ) (k : Kind) (es : List (List ℕ)) (rest : List ℕ) : Type 0 where
  pub found : section_at bs at k ≡ Some (standing at k es)
  pub shelved : Shelved bs (standing at k es)
  pub entries : entries_at bs (standing at k es) ≡ es
  pub left : drop (past (standing at k es)) bs ≡ rest
  pub readable : Readable bs (past (standing at k es))

-- bytes that are a section and more have one at the place
module _ (bs : List ℕ) (at : ℕ) (k : Kind) (es : List (List ℕ)) (rest : List ℕ)
    (e : drop at bs ≡ section_of k es ++ rest) (s : Entries k es) (d : Kinded k) (n : k.number < 65536) (r : Readable bs at) where
  behind_size : drop at bs ≡ little 4 (2 + length (joined es)) ++ (little 2 k.number ++ (joined es ++ rest))
  unfolding section_of
  behind_size = e ∙ simp append_assoc

  behind_kind : drop (at + 4) bs ≡ little 2 k.number ++ (joined es ++ rest)
  behind_kind = sym (drop-drop 4 at bs) ∙ ap (drop 4) behind_size ∙ drop_at (little 4 (2 + length (joined es))) _ 4 (little_length 4 (2 + length (joined es)))

  behind_head : drop (at + 6) bs ≡ joined es ++ rest
  behind_head =
      let m : at + 4 + 2 ≡ at + 6 = omega arith in
      rw (← m) (sym (drop-drop 2 (at + 4) bs) ∙ ap (drop 2) behind_kind ∙ drop_at (little 2 k.number) _ 2 (little_length 2 k.number))

  long : length bs ≡ at + 6 + length (joined es) + length rest
  long =
      let a = ap length behind_size in
      let b = simp (length-append, length-drop, little_length) at a in
      omega (arith, b, r.inside)

  size_is : size_at bs at ≡ 2 + length (joined es)
  unfolding size_at
  size_is =
      ap number_in (ap (take 4) behind_size ∙ take_at (little 4 (2 + length (joined es))) _ 4 (little_length 4 (2 + length (joined es))))
      ∙ little_number 4 (2 + length (joined es)) (omega (arith, long, r.small))

  kind_is : kind_at bs at ≡ k.number
  unfolding kind_at
  kind_is = ap number_in (ap (take 2) behind_kind ∙ take_at (little 2 k.number) _ 2 (little_length 2 k.number)) ∙ little_number 2 k.number n

  entries_long : length (joined es) ≡ length es * k.entry
  entries_long = joined_length k es s.each

  left : size_at bs at - 2 ≡ length es * k.entry
  left = omega (arith, size_is, entries_long)

  count_is : (size_at bs at - 2) / k.entry ≡ length es
  count_is = rw left (mul-div_cancel (length es) d.some)

  entries_are : entries_at bs (section_in bs at k) ≡ es
  unfolding entries_at
  entries_are = rw (count_is, behind_head) (cut_joined k es rest s.each)

  framed_is : framed bs at k ≡ true
  unfolding framed
  framed_is =
      sym
      (and_yes _ _ _ (le-leb (at + 6) (length bs) (omega (arith, long)))
      (and_yes _ _ _ (eq-eqb (kind_at bs at) k.number kind_is)
      (and_yes _ _ _ (le-leb 2 (size_at bs at) (omega (arith, size_is)))
      (and_yes _ _ _ (le-leb (at + 4 + size_at bs at) (length bs) (omega (arith, long, size_is))) (sym (eq-eqb ((size_at bs at - 2) % k.entry) 0 (rw left (mul-mod_left (length es) k.entry))))))))

  sound_is : sound_in bs (section_in bs at k) ≡ true
  unfolding sound_in
  sound_is = rw entries_are (sym (and_yes _ _ _ (each_flags k es s.each) (sym s.ascending)))

  stands : section_at bs at k ≡ Some (standing at k es)
  unfolding section_at standing
  stands = sym (choose_yes _ _ _ _ (sym (and_yes _ _ _ framed_is (sym sound_is))) (rw count_is))

  stood_entries : entries_at bs (standing at k es) ≡ es
  unfolding standing entries_at
  stood_entries = rw behind_head (cut_joined k es rest s.each)

  stood_within : past (standing at k es) ≤ length bs
  unfolding standing past
  stood_within = omega (arith, long, entries_long)

  leaves : drop (past (standing at k es)) bs ≡ rest
  unfolding standing past
  leaves =
      sym (drop-drop (length es * k.entry) (at + 6) bs) ∙ ap (drop (length es * k.entry)) behind_head ∙ drop_at (joined es) rest (length es * k.entry) entries_long

  pub stood : Stood bs at k es rest
  unfolding standing past
  stood =
      record {
        found = stands;
        shelved = record { wide = d.whole; within = stood_within; ascending = rw stood_entries s.ascending };
        entries = stood_entries;
        left = leaves;
        readable = record { inside = stood_within; small = r.small };
      }

-- a part and what follows it
parted : (bs : List ℕ) (at n : ℕ) → drop at bs ≡ take n (drop at bs) ++ drop (at + n) bs
parted bs at n = sym (take-append-drop n (drop at bs)) ∙ ap (λ (l : List ℕ). take n (drop at bs) ++ l) (drop-drop n at bs)

-- what was read as a section is one
pub record Piece (bs : List ℕ) (at : ℕ) (k : Kind) (s : Section) : Type 0 where
  pub entries : List (List ℕ)
  pub made : drop at bs ≡ section_of k entries ++ drop (past s) bs
  pub sound : Entries k entries

both : (bs : List ℕ) (at : ℕ) (k : Kind) (s : Section) → section_at bs at k ≡ Some s
    → (framed bs at k ≡ true) × (sound_in bs (section_in bs at k) ≡ true) × (section_in bs at k ≡ s)
unfolding section_at choose ◌and◌
both bs at k s e = go (framed bs at k) (sound_in bs (section_in bs at k)) e
  where
    go : (a b : Bool) → choose (a and b) (Some (section_in bs at k)) None ≡ Some s → (a ≡ true) × (b ≡ true) × (section_in bs at k ≡ s)
    go true true e = (refl, refl, cc)
    go true false e = absurd (cc)
    go false b e = absurd (cc)

module _ (bs : List ℕ) (at : ℕ) (k : Kind) (s : Section) (b : Bytes bs) (t : section_at bs at k ≡ Some s) where
  frame : Frame bs at k
  frame = frame_of bs at k true (sym (both bs at k s t).0) refl

  listed : List (List ℕ)
  listed = entries_at bs (section_in bs at k)

  next : ℕ
  next = at + 6 + (size_at bs at - 2)

  next_is : past s ≡ next
  unfolding past next
  next_is = rw (← (both bs at k s t).2) (rw frame.whole)

  found_joined : joined listed ≡ take (size_at bs at - 2) (drop (at + 6) bs)
  unfolding listed entries_at
  found_joined = joined_cut k.entry ((size_at bs at - 2) / k.entry) (drop (at + 6) bs) ∙ rw frame.whole

  found_long : length (joined listed) ≡ size_at bs at - 2
  found_long = rw found_joined (simp (length-take, length-drop) (omega (arith, frame.all, frame.least)))

  size_bytes : little 4 (2 + length (joined listed)) ≡ take 4 (drop at bs)
  unfolding size_at
  size_bytes =
      let n : length (take 4 (drop at bs)) ≡ 4 = simp (length-take, length-drop) (omega (arith, frame.head)) in
      let m : 2 + length (joined listed) ≡ number_in (take 4 (drop at bs)) = omega (arith, found_long, frame.least) in
      rw m (rw n at (number_little (take 4 (drop at bs)) (bytes_take 4 (drop at bs) (bytes_drop at bs b))))

  kind_bytes : little 2 k.number ≡ take 2 (drop (at + 4) bs)
  unfolding kind_at
  kind_bytes =
      let n : length (take 2 (drop (at + 4) bs)) ≡ 2 = simp (length-take, length-drop) (omega (arith, frame.head)) in
      rw (← frame.kind) (rw n at (number_little (take 2 (drop (at + 4) bs)) (bytes_take 2 (drop (at + 4) bs) (bytes_drop (at + 4) bs b))))

  found_made : drop at bs ≡ section_of k listed ++ drop next bs
  unfolding section_of next
  found_made =
      let m : at + 4 + 2 ≡ at + 6 = omega arith in
      let c : drop (at + 6) bs ≡ joined listed ++ drop next bs = parted bs (at + 6) (size_at bs at - 2) ∙ ap (λ (l : List ℕ). l ++ drop next bs) (sym found_joined) in
      let d : drop (at + 4) bs ≡ little 2 k.number ++ (joined listed ++ drop next bs) =
      rw (m, ← kind_bytes, c) at (parted bs (at + 4) 2) in
      let e : drop at bs ≡ little 4 (2 + length (joined listed)) ++ (little 2 k.number ++ (joined listed ++ drop next bs)) =
      rw (← size_bytes, d) at (parted bs at 4) in
      e ∙ simp append_assoc

  pub piece : Piece bs at k s
  unfolding sound_in listed entries_at
  piece =
      let f = (both bs at k s t).1 in
      record {
        entries = listed;
        made = rw next_is found_made;
        sound = record {
          each = cut_each k ((size_at bs at - 2) / k.entry) (drop (at + 6) bs) (simp length-drop (omega (arith, frame.whole, frame.all, frame.least))) (and_left _ _ f);
          ascending = and_right _ _ f;
        };
      }
