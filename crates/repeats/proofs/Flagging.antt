-- The flags of batches, block by block: what a block adds, and that after the last they are those that are asked for.
-- Assumes nothing.
use mathlib.Core.Path.{◌≡◌, refl, sym, ap, ◌∙◌}
use mathlib.Core.Bool.{Bool, true, false}
use mathlib.Core.List.{List, [], ◌∷◌, ◌++◌, append-nil, append_assoc}
use Prim.Native.Nat.{ℕ, zero, suc, ◌+◌, ◌-◌, ◌*◌, ◌/◌, ◌≤◌, ◌<◌}
use native.Mathlib.Omega.{arith}
use borrow.Author.Tests.{leb-true, leb-false, ltb-true, ltb-false, lt-ltb, le-ltb}
use lib.Dec.{leb, ltb}
use lib.ListN.{length, drop, set, length-append, replicate}
use lib.Seq.{drop_at}
use Rattle.page.proofs.Shown.{set_seam}
use Rattle.record.specs.Choice.{◌and◌, ◌or◌, choose}
use Rattle.record.specs.Value.{held}
use Rattle.nesting.specs.Division.{Record}
use Rattle.nesting.specs.Records.{cut, record_at}
use Rattle.nesting.proofs.Cuts.{cut_length}
use Rattle.tables.specs.Tables.{Stands, member}
use Rattle.repeats.specs.declared.Sort.TheVariants.{Batches}
use Rattle.repeats.specs.declared.blocks.Visited.{Visited}
use Rattle.repeats.specs.Repeats.{numbering, is_of, numbers}
use Rattle.repeats.specs.Blocks.{lesser, between, meets, visited, count_visited, table_visited}
use Rattle.repeats.specs.Schedules.{flags_of, numbers_before, numbers_from}
use Rattle.repeats.specs.Marking.{zeros, index_after, flag_at, marks_to, Marked}
use Rattle.repeats.proofs.Ranges.{numbers_append, between_join, meets_join, meets_none, numbers_more}
use Rattle.repeats.proofs.Visits.{Filling, filling_none, filling_next, visit_meets, visit_next}

-- a flag among others is set
set_told : (known : Bool) (xs ys : List ℕ) (y : ℕ) → choose known (set (xs ++ y ∷ ys) (length xs) 1) (xs ++ y ∷ ys) ≡ xs ++ choose known 1 y ∷ ys
unfolding choose
set_told true xs ys y = set_seam xs ys y 1
set_told false xs ys y = refl

-- what follows a beginning
cancel : (xs ys zs : List ℕ) → xs ++ ys ≡ xs ++ zs → ys ≡ zs
cancel xs ys zs e = sym (drop_at xs ys (length xs) refl) ∙ ap (drop (length xs)) e ∙ drop_at xs zs (length xs) refl

nothing : (xs ys : List ℕ) → xs ≡ xs ++ ys → ys ≡ []
nothing xs ys e = sym (cancel xs [] ys (append-nil xs ∙ e))

-- the lesser of two where one is not beyond the other
lesser_same : (a b k : ℕ) → k ≤ a → k ≤ b → lesser a k ≡ lesser b k
lesser_same a b k h l = omega arith

up_to : (start from k : ℕ) → start ≤ k → k < start + (from - start) → k ≤ from
up_to start from k h l = omega arith

-- as many zeros
zeros_snoc : (n : ℕ) → zeros n ++ 0 ∷ [] ≡ zeros (suc n)
unfolding zeros
zeros_snoc zero = refl
zeros_snoc (suc n) = ap (◌∷◌ 0) (zeros_snoc n)

pub zeros_replicate : (n : ℕ) → replicate n 0 ≡ zeros n
unfolding zeros
zeros_replicate zero = refl
zeros_replicate (suc n) = ap (◌∷◌ 0) (zeros_replicate n)

-- one flag more at the end
flags_snoc : (earlier later : List (List ℕ)) (y : List ℕ) → flags_of earlier (later ++ y ∷ []) ≡ flags_of earlier later ++ choose (member y (earlier ++ later)) 1 0 ∷ []
unfolding flags_of
flags_snoc earlier [] y = rw (append-nil earlier)
flags_snoc earlier (x ∷ later) y = ap (◌∷◌ (choose (member x earlier) 1 0)) (flags_snoc (earlier ++ x ∷ []) later y ∙ rw (append_assoc earlier (x ∷ []) later))

-- one more, or none
length_more : {A : Type 0} (t : Bool) (xs : List A) (x : A) → length (xs ++ choose t (x ∷ []) []) ≡ choose t (length xs + 1) (length xs)
unfolding choose
length_more true xs x = length-append xs (x ∷ [])
length_more false xs x = ap length (append-nil xs)

-- there are no more numbers than records
numbers_few : (rs : List Record) → length (numbers Batches rs) ≤ length rs
unfolding numbers choose
numbers_few [] = omega arith
numbers_few (r ∷ rs) = go (is_of Batches r) (numbers_few rs)
  where
    go : (t : Bool) → length (numbers Batches rs) ≤ length rs → length (choose t (held r (numbering Batches) ∷ numbers Batches rs) (numbers Batches rs)) ≤ suc (length rs)
    go true h = omega arith
    go false h = omega arith

module _ (file : List ℕ) where
  -- the numbers from the start on, up to a place
  abbrev ahead : ℕ → ℕ → List (List ℕ)
  ahead start place = numbers Batches (between 1 start place file)

  ahead_none : (start place : ℕ) → place ≤ start → ahead start place ≡ []
  unfolding numbers cut
  ahead_none start place h =
      let e : place - start ≡ 0 = omega arith in
      rw e

  -- the index of a record's flag is the number of headers before it
  index_next : (start place index after : ℕ) → index ≡ length (ahead start place) → after ≡ index_after start place (is_of Batches (record_at 1 place file)) index → after ≡ length (ahead start (place + 1))
  unfolding choose
  index_next start place index after i e = go (leb start place) refl
    where
      go : (t : Bool) → leb start place ≡ t → after ≡ length (ahead start (place + 1))
      go true a = e ∙ rw (a, numbers_more Batches 1 file start place (leb-true start place a), length_more, i)
      go false a = e ∙ rw (a, ahead_none start (place + 1) (omega (arith, leb-false start place a))) (i ∙ ap length (ahead_none start place (omega (arith, leb-false start place a))))

  pub index_none : (start : ℕ) → 0 ≡ length (ahead start 0)
  index_none start = sym (ap length (ahead_none start 0 (omega arith)))

  module _ (start : ℕ) where
    -- there is a flag for each number
    marks_length : (limit n : ℕ) → length (marks_to file limit start n) ≡ length (ahead start (start + n))
    unfolding marks_to
    marks_length limit zero = sym (ap length (ahead_none start (start + 0) (omega arith)))
    marks_length limit (suc n) =
        let e : start + suc n ≡ start + n + 1 = omega arith in
        rw (e, numbers_more Batches 1 file start (start + n) (omega arith)) (simp length_more (rw (marks_length limit n)))

    marks_place : (limit place : ℕ) → length (marks_to file limit start (place - start)) ≡ length (ahead start place)
    unfolding marks_to numbers cut
    marks_place limit place = go (leb start place) refl
      where
        go : (t : Bool) → leb start place ≡ t → length (marks_to file limit start (place - start)) ≡ length (ahead start place)
        go true a =
            let e : start + (place - start) ≡ place = omega (arith, leb-true start place a) in
            marks_length limit (place - start) ∙ rw e
        go false a =
            let e : place - start ≡ 0 = omega (arith, leb-false start place a) in
            rw e

    -- the same numbers tell the same
    marks_same : (l m n : ℕ) → ((k : ℕ) → start ≤ k → k < start + n → lesser l k ≡ lesser m k) → marks_to file l start n ≡ marks_to file m start n
    unfolding marks_to
    marks_same l m zero h = refl
    marks_same l m (suc n) h =
        let e = h (start + n) (omega arith) (omega arith) in
        rw (marks_same l m n (λ k i q. h k i (omega arith)), e)

    -- the flags of the first records, and of those behind them
    marks_split : (l k j : ℕ) → (rest : List ℕ) × (marks_to file l start (k + j) ≡ marks_to file l start k ++ rest)
    unfolding marks_to
    marks_split l k zero =
        let e : k + 0 ≡ k = omega arith in
        ([], rw e (sym (append-nil (marks_to file l start k))))
    marks_split l k (suc j) =
        let r = marks_split l k j in
        let e : k + suc j ≡ suc (k + j) = omega arith in
        let x = choose (is_of Batches (record_at 1 (start + (k + j)) file)) (flag_at file l (start + (k + j)) ∷ []) [] in
        (r.0 ++ x, rw (e, r.1) (append_assoc (marks_to file l start k) r.0 x))

    marks_rest : (l k : ℕ) → k ≤ length file / 850 - start → (rest : List ℕ) × (marks_to file l start (length file / 850 - start) ≡ marks_to file l start k ++ rest)
    marks_rest l k h =
        let e : k + (length file / 850 - start - k) ≡ length file / 850 - start = omega arith in
        rw e at (marks_split l k (length file / 850 - start - k))

    -- one record more
    marks_more : (l place : ℕ) → start ≤ place → marks_to file l start (place + 1 - start) ≡ marks_to file l start (place - start) ++ choose (is_of Batches (record_at 1 place file)) (flag_at file l place ∷ []) []
    unfolding marks_to
    marks_more l place h =
        let e : place + 1 - start ≡ suc (place - start) = omega arith in
        let f : start + (place - start) ≡ place = omega arith in
        rw e (rw f)

    -- one that has no flag
    marks_early : (place l : ℕ) → place < start → marks_to file l start (place + 1 - start) ≡ marks_to file l start (place - start)
    marks_early place l h =
        let e : place + 1 - start ≡ place - start = omega arith in
        rw e

    marks_other : (place l : ℕ) → start ≤ place → is_of Batches (record_at 1 place file) ≡ false → marks_to file l start (place + 1 - start) ≡ marks_to file l start (place - start)
    unfolding choose
    marks_other place l h o = marks_more l place h ∙ rw (o, append-nil (marks_to file l start (place - start)))

    -- before the first block, and after the last
    pub marks_none : (n : ℕ) → marks_to file 0 start n ≡ zeros (length (marks_to file 0 start n))
    unfolding marks_to choose zeros
    marks_none zero = refl
    marks_none (suc n) = go (is_of Batches (record_at 1 (start + n) file)) (marks_none n)
      where
        new : flag_at file 0 (start + n) ≡ 0
        new = rw (meets_none Batches 1 file 0 (lesser 0 (start + n)) (start + n) (omega arith))

        go : (d : Bool) → marks_to file 0 start n ≡ zeros (length (marks_to file 0 start n)) → marks_to file 0 start n ++ choose d (flag_at file 0 (start + n) ∷ []) [] ≡ zeros (length (marks_to file 0 start n ++ choose d (flag_at file 0 (start + n) ∷ []) []))
        go true h =
            let e : length (marks_to file 0 start n ++ 0 ∷ []) ≡ suc (length (marks_to file 0 start n)) = rw length-append (omega arith) in
            rw (new, e) (ap (λ (xs : List ℕ). xs ++ 0 ∷ []) h ∙ zeros_snoc (length (marks_to file 0 start n)))
        go false h = rw (append-nil (marks_to file 0 start n)) h

    -- the numbers before a place are those before the start and those from it on
    before_split : (place : ℕ) → start ≤ place → numbers Batches (between 1 0 place file) ≡ numbers_before file start ++ ahead start place
    unfolding numbers_before
    before_split place h =
        let e : start - 0 ≡ start = omega arith in
        rw (between_join 1 file 0 start place (omega arith) h, numbers_append Batches (between 1 0 start file) (between 1 start place file), e)

    flag_told : (limit place : ℕ) → start ≤ place → place ≤ limit → is_of Batches (record_at 1 place file) ≡ true
        → flag_at file limit place ≡ choose (member (held (record_at 1 place file) (numbering Batches)) (numbers_before file start ++ ahead start place)) 1 0
    unfolding meets ◌and◌
    flag_told limit place h l o =
        let e : limit - (limit - place) ≡ place = omega arith in
        rw (e, o, ← before_split place h)

    marks_all : (limit n : ℕ) → start + n ≤ limit → marks_to file limit start n ≡ flags_of (numbers_before file start) (ahead start (start + n))
    unfolding marks_to flags_of choose
    marks_all limit zero h = sym (ap (flags_of (numbers_before file start)) (ahead_none start (start + 0) (omega arith)))
    marks_all limit (suc n) h =
        let e : start + suc n ≡ start + n + 1 = omega arith in
        rw (e, numbers_more Batches 1 file start (start + n) (omega arith), marks_all limit n (omega arith)) (go (is_of Batches (record_at 1 (start + n) file)) refl)
      where
        go : (d : Bool) → is_of Batches (record_at 1 (start + n) file) ≡ d
            → flags_of (numbers_before file start) (ahead start (start + n)) ++ choose d (flag_at file limit (start + n) ∷ []) [] ≡ flags_of (numbers_before file start) (ahead start (start + n) ++ choose d (held (record_at 1 (start + n) file) (numbering Batches) ∷ []) [])
        go true o = rw (flag_told limit (start + n) (omega arith) (omega arith) o) (sym (flags_snoc (numbers_before file start) (ahead start (start + n)) (held (record_at 1 (start + n) file) (numbering Batches))))
        go false o = rw (append-nil (flags_of (numbers_before file start) (ahead start (start + n))), append-nil (ahead start (start + n)))

    -- the numbers that are asked for
    from_start : start ≤ length file / 850 → numbers_from file start ≡ ahead start (start + (length file / 850 - start))
    unfolding numbers_from
    from_start h =
        let e : start + (length file / 850 - start) - start ≡ length file / 850 - start = omega arith in
        rw e

    pub marked_all : (from records : ℕ) (flags : List ℕ) → start * 850 + 850 ≤ length file → records ≡ length file / 850 → records ≤ from → Marked file start from flags → flags ≡ flags_of (numbers_before file start) (numbers_from file start)
    marked_all from records flags w n h e = e ∙ marks_all from (length file / 850 - start) (omega arith) ∙ sym (ap (flags_of (numbers_before file start)) (from_start (omega arith)))

    pub marked_none : (flags before : List ℕ) → start * 850 + 850 ≤ length file → length before ≡ length (numbers_from file start) → flags ≡ zeros (length before) → Marked file start 0 flags
    marked_none flags before w n e =
        e ∙ ap zeros (n ∙ ap length (from_start (omega arith)) ∙ sym (marks_length 0 (length file / 850 - start))) ∙ sym (marks_none (length file / 850 - start))

    pub marked_length : (from : ℕ) (flags before : List ℕ) → start * 850 + 850 ≤ length file → length before ≡ length (numbers_from file start) → Marked file start from flags → length flags ≡ length before
    marked_length from flags before w n e = ap length e ∙ marks_length from (length file / 850 - start) ∙ ap length (sym (from_start (omega arith))) ∙ sym n

    -- at a place of a block that begins at `from`: the flags before it are told by the block too, those behind it are as they were
    pub record Spread (from next place : ℕ) (flags : List ℕ) : Type 0 where
      pub rest : List ℕ
      pub here : flags ≡ marks_to file next start (place - start) ++ rest
      pub there : marks_to file from start (length file / 850 - start) ≡ marks_to file from start (place - start) ++ rest

    spread_none : (from : ℕ) (flags : List ℕ) → from < length file / 850 → Marked file start from flags → Spread from (length file / 850) from flags
    spread_none from flags h e =
        let r = marks_rest from (from - start) (omega arith) in
        let m = marks_same (length file / 850) from (from - start) (λ i a q. let u = up_to start from i a q in lesser_same (length file / 850) from i (omega arith) u) in
        record { rest = r.0; here = e ∙ r.1 ∙ rw m; there = r.1 }

    module _ (from next place : ℕ) (flags : List ℕ) (s : Spread from next place flags) (h : place < length file / 850) (f : from ≤ place) (g : from ≤ next) where
      -- a record without a flag
      spread_other : (after : ℕ) → ((k : ℕ) → k ≤ place → lesser after k ≡ lesser next k) → ((l : ℕ) → marks_to file l start (place + 1 - start) ≡ marks_to file l start (place - start)) → Spread from after (place + 1) flags
      spread_other after n stay =
          record {
            rest = s.rest;
            here = s.here ∙ rw (stay after, marks_same after next (place - start) (λ k a q. n k (omega arith)));
            there = s.there ∙ rw (stay from);
          }

      module _ (l : start ≤ place) (o : is_of Batches (record_at 1 place file) ≡ true) where
        abbrev before : ℕ → List ℕ
        before limit = marks_to file limit start (place - start)

        -- the flags from the place on
        behind : (rest : List ℕ) × (s.rest ≡ flag_at file from place ∷ rest) × (marks_to file from start (length file / 850 - start) ≡ marks_to file from start (place + 1 - start) ++ rest)
        unfolding choose
        behind =
            let r = marks_rest from (place + 1 - start) (omega arith) in
            let m : marks_to file from start (place + 1 - start) ≡ before from ++ flag_at file from place ∷ [] = marks_more from place l ∙ rw o in
            let c : before from ++ s.rest ≡ before from ++ flag_at file from place ∷ r.0 = sym s.there ∙ r.1 ∙ rw m (append_assoc (before from) (flag_at file from place ∷ []) r.0) in
            (r.0, cancel (before from) s.rest (flag_at file from place ∷ r.0) c, r.1)

        whole : flags ≡ before next ++ flag_at file from place ∷ behind.0
        whole = s.here ∙ ap (λ (xs : List ℕ). before next ++ xs) behind.1

        -- so there is one
        flag_within : length (before next) < length flags
        flag_within = rw (whole, length-append) (omega arith)

        module _ (after : ℕ) (n : (k : ℕ) → k ≤ place → lesser after k ≡ lesser next k) (known : Bool) (q : known ≡ meets Batches 1 file from (lesser next place) place) where
          -- what the block adds to it
          flag_joined : flag_at file after place ≡ choose known 1 (flag_at file from place)
          unfolding choose ◌or◌
          flag_joined =
              let d : from - (from - place) ≡ from = omega arith in
              let e = n place (omega arith) in
              let j = meets_join Batches 1 file 0 from (lesser next place) place (omega arith) (omega arith) in
              rw (e, j, ← q, d) (either (meets Batches 1 file 0 from place) known)
            where
              either : (a b : Bool) → ◌≡◌ {A = ℕ} (choose (a or b) 1 0) (choose b 1 (choose a 1 0))
              either true true = refl
              either true false = refl
              either false true = refl
              either false false = refl

          marks_after : marks_to file after start (place + 1 - start) ≡ before next ++ choose known 1 (flag_at file from place) ∷ []
          unfolding choose
          marks_after = marks_more after place l ∙ rw (o, flag_joined, marks_same after next (place - start) (λ k a q. n k (omega arith)))

          spread_set : (index : ℕ) → index ≡ length (before next) → Spread from after (place + 1) (choose known (set flags index 1) flags)
          spread_set index i =
              record {
                rest = behind.0;
                here =
                    ap (λ (xs : List ℕ). choose known (set xs index 1) xs) whole
                    ∙ rw (i, marks_after) (set_told known (before next) behind.0 (flag_at file from place) ∙ sym (append_assoc (before next) (choose known 1 (flag_at file from place) ∷ []) behind.0));
                there = behind.2;
              }

-- at a place of a block: what the table holds, the index of the next flag and that of the next block's first, and the flags
pub record InMarking (room : ℕ) (file : List ℕ) (start from place : ℕ) (table : List ℕ) (count next kept index : ℕ) (flags : List ℕ) : Type 0 where
  pub filling : Filling room Batches 1 file from (length file / 850) place table count next
  pub within : place ≤ length file / 850
  pub indexed : index ≡ length (numbers Batches (between 1 start place file))
  pub indexed_next : kept ≡ length (numbers Batches (between 1 start (lesser next place) file))
  pub spread : Spread file start from next place flags

module _ (file : List ℕ) (start from records : ℕ) (all : records ≡ length file / 850) where
  pub marking_begun : (table : List ℕ) (count : ℕ) (flags : List ℕ) (index : ℕ) → count ≡ 0 → length table ≡ 4096 → from < records → Marked file start from flags → index ≡ length (numbers Batches (between 1 start from file))
      → InMarking (length table) file start from from table count records index index flags
  marking_begun table count flags index z n l m i =
      let h : from < length file / 850 = omega arith in
      let e : length file / 850 - (length file / 850 - from) ≡ from = omega arith in
      rw (all, z)
      (record {
        filling = filling_none Batches 1 file from (length file / 850) table n h;
        within = omega arith;
        indexed = i;
        indexed_next = rw e i;
        spread = spread_none file start from flags h m;
      })

  module _ (room place : ℕ) (table : List ℕ) (count next kept index : ℕ) (flags : List ℕ) (b : InMarking room file start from place table count next kept index flags) where
    pub index_few : length file ≤ 65535 * 850 → index < 65536
    index_few u = omega (arith, b.indexed, b.within, numbers_few (between 1 start place file), cut_length (1 + start) (place - start) (drop (start * 850) file))

    module _ (l : place < records) (u : length file ≤ 65535 * 850) where
      h : place < length file / 850
      h = omega arith

      pub marking_stands : Stands 1 place file
      marking_stands = (omega arith, omega arith)

      module _ (v : Visited) (q : v ≡ visited Batches 1 file table count place next) (after : ℕ) (e : after ≡ index_after start place v.own index) where
        after_told : after ≡ index_after start place (is_of Batches (record_at 1 place file)) index
        unfolding visited
        after_told = e ∙ ap (λ (x : Visited). index_after start place x.own index) q

        -- the record's flag lies among the flags
        pub flag_fits : index < after → index < length flags
        unfolding choose
        flag_fits l = go (leb start place) (is_of Batches (record_at 1 place file)) refl refl
          where
            go : (t d : Bool) → leb start place ≡ t → is_of Batches (record_at 1 place file) ≡ d → index < length flags
            go true true a o =
                omega (arith, b.indexed, marks_place file start next place, flag_within file start from next place flags b.spread h (omega (arith, b.filling.few)) (omega (arith, b.filling.ahead)) (leb-true start place a) o)
            go true false a o = let z : after ≡ index = rw (a, o) at after_told in absurd (omega arith)
            go false d a o = let z : after ≡ index = rw a at after_told in absurd (omega arith)

        module _ (grown : ℕ) (d : grown ≡ count_visited Batches 1 file table count place) (table' : List ℕ) (t : table' ≡ table_visited Batches 1 file table count place) (flags' : List ℕ) (w : flags' ≡ choose (ltb index after) (choose v.known (set flags index 1) flags) flags)
            (kept' : ℕ) (g : kept' ≡ choose (ltb place v.next) after kept) where
          told_known : v.known ≡ meets Batches 1 file from (lesser next place) place
          told_known = visit_meets room Batches 1 file from (length file / 850) place table count next b.filling marking_stands v q

          next_same : (k : ℕ) → k ≤ place → lesser v.next k ≡ lesser next k
          next_same = visit_next room Batches 1 file from (length file / 850) place table count next b.filling marking_stands v q grown d table' t

          spread_next : Spread file start from v.next (place + 1) flags'
          unfolding choose
          spread_next = go (leb start place) (is_of Batches (record_at 1 place file)) refl refl
            where
              here : place < length file / 850
              here = h

              last : from ≤ place
              last = omega (arith, b.filling.few)

              front : from ≤ next
              front = omega (arith, b.filling.ahead)

              kept_flags : after ≡ index → flags' ≡ flags
              kept_flags z = w ∙ rw (le-ltb index after (omega arith))

              go : (a d : Bool) → leb start place ≡ a → is_of Batches (record_at 1 place file) ≡ d → Spread file start from v.next (place + 1) flags'
              go true true a o =
                  let z : after ≡ index + 1 = rw (a, o) at after_told in
                  let x : flags' ≡ choose v.known (set flags index 1) flags = w ∙ rw (lt-ltb index after (omega arith)) in
                  rw x (spread_set file start from next place flags b.spread here last front (leb-true start place a) o v.next next_same v.known told_known index (b.indexed ∙ sym (marks_place file start next place)))
              go true false a o = rw (kept_flags (rw (a, o) at after_told)) (spread_other file start from next place flags b.spread here last front v.next next_same (λ l. marks_other file start place l (leb-true start place a) o))
              go false d a o = rw (kept_flags (rw a at after_told)) (spread_other file start from next place flags b.spread here last front v.next next_same (λ l. marks_early file start place l (leb-false start place a)))

          index_after_holds : after ≡ length (numbers Batches (between 1 start (place + 1) file))
          index_after_holds = index_next file start place index after b.indexed after_told

          kept_next : (c : Bool) → ltb place v.next ≡ c → kept' ≡ length (numbers Batches (between 1 start (lesser v.next (place + 1)) file))
          unfolding choose
          kept_next true i =
              let x : v.next - (v.next - (place + 1)) ≡ place + 1 = omega (arith, ltb-true place v.next i) in
              g ∙ rw (i, x) index_after_holds
          kept_next false i =
              let x : v.next - (v.next - (place + 1)) ≡ v.next - (v.next - place) = omega (arith, ltb-false place v.next i) in
              g ∙ rw (i, x, next_same place (omega arith)) b.indexed_next

          pub marking_next : InMarking room file start from (place + 1) table' grown v.next kept' after flags'
          marking_next =
              record {
                filling = filling_next room Batches 1 file from (length file / 850) place table count next b.filling marking_stands v q grown d table' t h;
                within = omega arith;
                indexed = index_after_holds;
                indexed_next = kept_next _ refl;
                spread = spread_next;
              }

    -- there are as many flags as before
    pub marking_length : (before : List ℕ) → Marked file start from before → length flags ≡ length before
    marking_length before m =
        let s = b.spread in
        let e : length flags ≡ length (marks_to file next start (place - start)) + length s.rest = ap length s.here ∙ length-append (marks_to file next start (place - start)) s.rest in
        let f : length before ≡ length (marks_to file from start (place - start)) + length s.rest = ap length (m ∙ s.there) ∙ length-append (marks_to file from start (place - start)) s.rest in
        omega (arith, e, f, marks_place file start next place, marks_place file start from place)

    -- after the last record
    pub marking_end : records ≤ place → Marked file start next flags
    marking_end h =
        let p : place ≡ length file / 850 = omega (arith, b.within) in
        let s = b.spread in
        let e : s.rest ≡ [] = nothing (marks_to file from start (length file / 850 - start)) s.rest (s.there ∙ rw p) in
        s.here ∙ rw (e, p, append-nil (marks_to file next start (length file / 850 - start)))

    pub kept_end : records ≤ place → kept ≡ length (numbers Batches (between 1 start next file))
    kept_end h =
        let e : next - (next - place) ≡ next = omega (arith, b.filling.last) in
        b.indexed_next ∙ rw e
