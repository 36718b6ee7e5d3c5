-- The tables in parts: the rules of a letter are those of the parts that its function asks, one after the other.
-- Assumes nothing.
use mathlib.Core.Path.{◌≡◌, refl, sym, ap, ◌∙◌}
use mathlib.Core.List.{List, [], ◌∷◌, ◌++◌, map}
use Prim.Native.Nat.{ℕ}
use types.Run.{OneOf, miss}
use denote.Enum.Declared.{tag_of}
use Rattle.record.specs.declared.codes.Letter.{Letter}
use Rattle.record.specs.declared.codes.Letter.TheVariants.{N, C, W, I, A}
use Rattle.record.specs.Choice.{◌and◌, ◌or◌, choose}
use Rattle.record.specs.Layout as place
use Rattle.record.specs.Codes.{letter_byte}
use Rattle.reasons.specs.declared.Finding.{Finding}
use Rattle.std.specs.Prelude.{Ok, Err}
use Rattle.reasons.specs.Findings.{Checked, sound, first, noted, after}
use Rattle.reasons.proofs.Firsts.{after_sound, stays}
use Rattle.rules.specs.declared.Context.{Context}
use Rattle.rules.specs.Rules.{Rule, header, detail, party, account, procurement, lone_procurement, trailer, among, rows, rules_for, findings}

module _ (c : Context) (n : ℕ) (rec : List ℕ) where
  findings_append : (xs ys : List Rule) → findings c n rec (xs ++ ys) ≡ findings c n rec xs ++ findings c n rec ys
  unfolding findings
  findings_append [] ys = refl
  findings_append (x ∷ xs) ys = rw (findings_append xs ys)

  first_append : (xs ys : List (Checked Finding)) → first (xs ++ ys) ≡ noted (first xs) (first ys)
  unfolding first noted
  first_append [] ys = refl
  first_append (Ok tt ∷ xs) ys = first_append xs ys
  first_append (Err f ∷ xs) ys = refl

  -- one part after another
  pub parted : (xs ys zs : List Rule) → zs ≡ xs ++ ys → first (findings c n rec zs) ≡ noted (first (findings c n rec xs)) (first (findings c n rec ys))
  parted xs ys zs e = rw (e, findings_append xs ys) (first_append (findings c n rec xs) (findings c n rec ys))

  -- from what is known on
  pub from : (f : Checked Finding) (xs : List Rule) → after f (findings c n rec xs) ≡ noted f (first (findings c n rec xs))
  unfolding noted
  from (Ok tt) xs = after_sound (findings c n rec xs)
  from (Err f) xs = stays f (findings c n rec xs)

  -- the rules of a letter that is known
  pub lettered : (z : Checked Finding) (l m : Letter) (from to : ℕ) (rs : List Rule) → l ≡ m → z ≡ first (findings c n rec (rows from to m rs))
      → z ≡ first (findings c n rec (rows from to l rs))
  lettered z l m from to rs e h = rw e h

  pub nothing : (rs : List Rule) → rs ≡ [] → sound ≡ first (findings c n rec rs)
  unfolding findings first
  nothing rs e = rw e

-- the parts of each table
pub header_n : rules_for N header ≡ rows 6 9 N header ++ rows 10 14 N header
unfolding rows among header letter_byte choose ◌and◌ ◌or◌
header_n = refl

pub header_c : rules_for C header ≡ rows 6 17 C header ++ rows 18 20 C header
unfolding rows among header letter_byte choose ◌and◌ ◌or◌
header_c = refl

pub header_w : rules_for W header ≡ rows 6 9 N header ++ rows 10 14 W header
unfolding rows among header letter_byte choose ◌and◌ ◌or◌
header_w = refl

pub header_i : rules_for I header ≡ rows 6 9 N header ++ rows 10 14 I header
unfolding rows among header letter_byte choose ◌and◌ ◌or◌
header_i = refl

pub header_a : rules_for A header ≡ rows 6 9 N header ++ rows 10 14 I header
unfolding rows among header letter_byte choose ◌and◌ ◌or◌
header_a = refl

pub common_parts : (l : Letter) → rows 26 38 l detail ≡ rows 26 28 N detail ++ (rows 29 29 l detail ++ rows 35 38 N detail)
unfolding rows among detail letter_byte choose ◌and◌ ◌or◌
common_parts N = refl
common_parts C = refl
common_parts W = refl
common_parts I = refl
common_parts A = refl

-- a letter that is not that of checks
abbrev pub Other : Letter → Type 0
Other l = OneOf (0 ∷ 2 ∷ 3 ∷ 4 ∷ []) (tag_of Rattle.record.specs.contracts.codes.Letter.the_type l)

-- the payee's location is asked of checks alone
pub location_none : (l : Letter) → Other l → rows 29 29 l detail ≡ []
unfolding rows among detail letter_byte choose ◌and◌ ◌or◌
location_none N d = refl
location_none C d = absurd (miss (0 ∷ 2 ∷ 3 ∷ 4 ∷ []) 1 tt d)
location_none W d = refl
location_none I d = refl
location_none A d = refl

check_parts : rules_for C detail ≡ rows 23 25 C detail ++ (rows 26 38 C detail ++ rows 42 62 C detail)
unfolding rows among detail letter_byte choose ◌and◌ ◌or◌
check_parts = refl

pub detail_c : (l : Letter) → l ≡ C → rules_for l detail ≡ rows 23 25 C detail ++ (rows 26 38 l detail ++ rows 42 62 l detail)
detail_c l e = rw e check_parts

pub detail_other : (l : Letter) → Other l → rules_for l detail ≡ rows 23 24 N detail ++ (rows 26 38 l detail ++ rows 42 62 l detail)
unfolding rows among detail letter_byte choose ◌and◌ ◌or◌
detail_other N d = refl
detail_other C d = absurd (miss (0 ∷ 2 ∷ 3 ∷ 4 ∷ []) 1 tt d)
detail_other W d = refl
detail_other I d = refl
detail_other A d = refl

pub account_parts : rules_for N account ≡ rows 80 85 N account ++ rows 86 87 N account
unfolding rows among account letter_byte choose ◌and◌ ◌or◌
account_parts = refl

-- the party's name is asked under every letter but one
pub party_asked : (l : Letter) → (l ≡ A → ⊥) → rules_for l party ≡ rules_for N party
unfolding rows among party letter_byte choose ◌and◌ ◌or◌
party_asked N d = refl
party_asked C d = refl
party_asked W d = refl
party_asked I d = refl
party_asked A d = absurd (d refl)

pub party_none : rules_for A party ≡ []
unfolding rows among party letter_byte choose ◌and◌ ◌or◌
party_none = refl

-- the tables by their parts, as the code asks them
module _ (c : Context) (n : ℕ) (rec : List ℕ) where
  abbrev whole : List Rule → Checked Finding
  whole rs = first (findings c n rec rs)

  three : (xs ys zs ws : List Rule) → ws ≡ xs ++ (ys ++ zs) → whole ws ≡ noted (whole xs) (noted (whole ys) (whole zs))
  three xs ys zs ws e = parted c n rec xs (ys ++ zs) ws e ∙ ap (noted (whole xs)) (parted c n rec ys zs (ys ++ zs) refl)

  module _ (l : Letter) where
    pub whole_header_n : l ≡ N → first (findings c n rec (rules_for l header)) ≡ noted (first (findings c n rec (rows 6 9 N header))) (first (findings c n rec (rows 10 14 N header)))
    whole_header_n e = rw e (parted c n rec _ _ _ header_n)

    pub whole_header_c : l ≡ C → first (findings c n rec (rules_for l header)) ≡ noted (first (findings c n rec (rows 6 17 C header))) (first (findings c n rec (rows 18 20 C header)))
    whole_header_c e = rw e (parted c n rec _ _ _ header_c)

    pub whole_header_w : l ≡ W → first (findings c n rec (rules_for l header)) ≡ noted (first (findings c n rec (rows 6 9 N header))) (first (findings c n rec (rows 10 14 W header)))
    whole_header_w e = rw e (parted c n rec _ _ _ header_w)

    pub whole_header_i : l ≡ I → first (findings c n rec (rules_for l header)) ≡ noted (first (findings c n rec (rows 6 9 N header))) (first (findings c n rec (rows 10 14 I header)))
    whole_header_i e = rw e (parted c n rec _ _ _ header_i)

    pub whole_header_a : l ≡ A → first (findings c n rec (rules_for l header)) ≡ noted (first (findings c n rec (rows 6 9 N header))) (first (findings c n rec (rows 10 14 I header)))
    whole_header_a e = rw e (parted c n rec _ _ _ header_a)

    pub whole_common : first (findings c n rec (rows 26 38 l detail))
        ≡ noted (first (findings c n rec (rows 26 28 N detail))) (noted (first (findings c n rec (rows 29 29 l detail))) (first (findings c n rec (rows 35 38 N detail))))
    whole_common = three _ _ _ _ (common_parts l)

    pub no_location : Other l → first (findings c n rec (rows 29 29 l detail)) ≡ sound
    no_location d = sym (nothing c n rec _ (location_none l d))

    pub whole_check : l ≡ C → first (findings c n rec (rules_for l detail))
        ≡ noted (first (findings c n rec (rows 23 25 C detail))) (noted (first (findings c n rec (rows 26 38 l detail))) (first (findings c n rec (rows 42 62 l detail))))
    whole_check e = three _ _ _ _ (detail_c l e)

    pub whole_other : Other l → first (findings c n rec (rules_for l detail))
        ≡ noted (first (findings c n rec (rows 23 24 N detail))) (noted (first (findings c n rec (rows 26 38 l detail))) (first (findings c n rec (rows 42 62 l detail))))
    whole_other d = three _ _ _ _ (detail_other l d)

    pub no_party : l ≡ A → first (findings c n rec (rules_for l party)) ≡ sound
    no_party e = sym (nothing c n rec _ (rw e party_none))

    pub whole_party : (l ≡ A → ⊥) → first (findings c n rec (rules_for l party)) ≡ first (findings c n rec (rules_for N party))
    whole_party e = rw (party_asked l e)

  pub whole_account : first (findings c n rec (rules_for N account)) ≡ noted (first (findings c n rec (rows 80 85 N account))) (first (findings c n rec (rows 86 87 N account)))
  whole_account = parted c n rec _ _ _ account_parts

pub ruleset wholes = (from, whole_header_n, whole_header_c, whole_header_w, whole_header_i, whole_header_a, whole_common, no_location, whole_check, whole_other, no_party, whole_party, whole_account)

-- every rule stands where 004 puts its field
pub tables : List Rule
tables = header ++ (detail ++ (party ++ (account ++ (procurement ++ (lone_procurement ++ trailer)))))

pub positions : map (λ (r : Rule). r.position) tables ≡ map (λ (r : Rule). place.position_in (place.rows place.records) r.field) tables
unfolding tables header detail party account procurement lone_procurement trailer place.position_in place.rows place.records place.layout choose
positions = refl
