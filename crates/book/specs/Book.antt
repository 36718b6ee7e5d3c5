-- The lent code book (01 Code book): what a book is, said by the entries that it is made of.
use Rattle.std.specs.Prelude.{ℕ, zero, suc, ◌+◌, ◌*◌, ◌≤◌, ◌≡◌, Bool, true, false, List, [], ◌∷◌, ◌++◌, Option, Some, None, option_map, leb, eqb, length, take, drop, get_or}
use Rattle.numbers.specs.Numbers.{little}
use Rattle.record.specs.declared.Line.{Line}
use Rattle.record.specs.Choice.{◌and◌, choose}
use Rattle.record.specs.Fields.{text}
use Rattle.record.specs.Value.{held, seen}
use Rattle.record.specs.Tests.{every, blank, alike}
use Rattle.record.specs.Ordering.{order, is_before}
use Rattle.book.specs.declared.Kind.{Kind}
use Rattle.book.specs.declared.Section.{Section}
use Rattle.book.specs.declared.Book.{Book}

-- the kinds: number, bytes of a code, bytes of an entry (a code, and in kinds 2 and 3 a flag)
abbrev pub system_kind : Kind
system_kind = record { number = 1; code = 40; entry = 40 }

abbrev pub location_kind : Kind
location_kind = record { number = 2; code = 8; entry = 9 }

abbrev pub betc_kind : Kind
betc_kind = record { number = 3; code = 8; entry = 9 }

abbrev pub type_kind : Kind
type_kind = record { number = 4; code = 25; entry = 25 }

abbrev pub state_kind : Kind
state_kind = record { number = 5; code = 2; entry = 2 }

abbrev pub country_kind : Kind
country_kind = record { number = 6; code = 2; entry = 2 }

abbrev pub currency_kind : Kind
currency_kind = record { number = 7; code = 3; entry = 3 }

-- a book is EBCDIC, whatever the file is
abbrev pub lent : Line
lent = record { number = 0; ascii = false }

-- the code of an entry: text, corrected before its order is tested (02 W3)
unfoldable pub entry_code : ℕ → List ℕ → List ℕ
entry_code width e = held (seen lent e) (text 1 width)

-- a flag is 1 or 0 (CARS Reporter or not, credit or debit)
unfoldable pub flagged : ℕ → List ℕ → Bool
flagged width e = every (λ (x : ℕ). leb x 1) (drop width e)

-- codes strictly ascend by bytes; e is the entry before these
unfoldable pub follow : ℕ → List ℕ → List (List ℕ) → Bool
follow width e [] = true
follow width e (f ∷ fs) = is_before (order (entry_code width e) (entry_code width f)) and follow width f fs

-- the codes of a section strictly ascend
unfoldable pub ascend : ℕ → List (List ℕ) → Bool
ascend width [] = true
ascend width (e ∷ es) = follow width e es

-- every entry is as long as its kind says, and its flag is a flag
pub data Each (k : Kind) : List (List ℕ) → Type 0 where
  none : Each k []
  more : (e : List ℕ) (es : List (List ℕ)) → length e ≡ k.entry → flagged k.code e ≡ true → Each k es → Each k (e ∷ es)

-- the entries of a sound section
pub record Entries (k : Kind) (es : List (List ℕ)) : Type 0 where
  pub each : Each k es
  pub ascending : ascend k.code es ≡ true

-- the entries, one after another
unfoldable pub joined : List (List ℕ) → List ℕ
joined [] = []
joined (e ∷ es) = e ++ joined es

-- a section: four bytes with the length of kind and entries together, two with the kind, the entries
unfoldable pub section_of : Kind → List (List ℕ) → List ℕ
section_of k es = little 4 (2 + length (joined es)) ++ little 2 k.number ++ joined es

-- what a book lists
pub record Contents : Type 0 where
  pub systems : List (List ℕ)
  pub locations : List (List ℕ)
  pub betcs : List (List ℕ)
  pub types : List (List ℕ)
  pub states : List (List ℕ)
  pub countries : List (List ℕ)
  pub currencies : List (List ℕ)

-- kinds 1 to 7, each once, in order, nothing after
unfoldable pub book_of : Contents → List ℕ
book_of c =
    section_of system_kind c.systems
    ++ section_of location_kind c.locations
    ++ section_of betc_kind c.betcs
    ++ section_of type_kind c.types
    ++ section_of state_kind c.states
    ++ section_of country_kind c.countries
    ++ section_of currency_kind c.currencies

-- the bytes are a sound book that lists c
pub record Lists (bytes : List ℕ) (c : Contents) : Type 0 where
  pub made : bytes ≡ book_of c
  pub small : length bytes ≤ 16777216
  pub systems : Entries system_kind c.systems
  pub locations : Entries location_kind c.locations
  pub betcs : Entries betc_kind c.betcs
  pub types : Entries type_kind c.types
  pub states : Entries state_kind c.states
  pub countries : Entries country_kind c.countries
  pub currencies : Entries currency_kind c.currencies

-- the section of these entries that begins at a place: its entries stand after length and kind
unfoldable pub standing : ℕ → Kind → List (List ℕ) → Section
standing at k es = record { start = at + 6; count = length es; code = k.code; entry = k.entry }

-- a section by its numbers
abbrev pub section_at : ℕ → ℕ → ℕ → ℕ → Section
section_at start count code entry = record { start = start; count = count; code = code; entry = entry }

-- the place after a section
unfoldable pub past : Section → ℕ
past s = s.start + s.count * s.entry

-- where the seven sections of a sound book stand
abbrev pub systems_at : Contents → Section
systems_at c = standing 0 system_kind c.systems

abbrev pub locations_at : Contents → Section
locations_at c = standing (past (systems_at c)) location_kind c.locations

abbrev pub betcs_at : Contents → Section
betcs_at c = standing (past (locations_at c)) betc_kind c.betcs

abbrev pub types_at : Contents → Section
types_at c = standing (past (betcs_at c)) type_kind c.types

abbrev pub states_at : Contents → Section
states_at c = standing (past (types_at c)) state_kind c.states

abbrev pub countries_at : Contents → Section
countries_at c = standing (past (states_at c)) country_kind c.countries

abbrev pub currencies_at : Contents → Section
currencies_at c = standing (past (countries_at c)) currency_kind c.currencies

-- a sound book
unfoldable pub placed : Contents → Book
placed c = record {
  systems = systems_at c;
  locations = locations_at c;
  betcs = betcs_at c;
  types = types_at c;
  states = states_at c;
  countries = countries_at c;
  currencies = currencies_at c;
}

-- what reading the bytes comes to: the places of the sections, exactly when the bytes list something
pub data Opened (bytes : List ℕ) : Option Book → Type 0 where
  sound : (c : Contents) → Lists bytes c → Opened bytes (Some (placed c))
  unsound : ((c : Contents) → Lists bytes c → ⊥) → Opened bytes None

-- the bytes cut into n entries of w bytes
unfoldable pub cut : ℕ → ℕ → List ℕ → List (List ℕ)
cut w zero xs = []
cut w (suc n) xs = take w xs ∷ cut w n (drop w xs)

-- the entries of the section that stands there
unfoldable pub entries_at : List ℕ → Section → List (List ℕ)
entries_at bytes s = cut s.entry s.count (drop s.start bytes)

-- a section that can be looked up in: its entries lie in the book, and their codes ascend
pub record Shelved (bytes : List ℕ) (s : Section) : Type 0 where
  pub wide : s.code ≤ s.entry
  pub within : s.start + s.count * s.entry ≤ length bytes
  pub ascending : ascend s.code (entries_at bytes s) ≡ true

-- the entry whose code is x: no other can be meant, since codes ascend
unfoldable pub entry_for : ℕ → List (List ℕ) → List ℕ → Option (List ℕ)
entry_for width [] x = None
entry_for width (e ∷ es) x = choose (alike (entry_code width e) x) (Some e) (entry_for width es x)

-- the flag of an entry of kind 2 or 3, after a code of eight bytes; an entry of eight bytes has none
unfoldable pub flag_of : List ℕ → Bool
flag_of e = eqb (get_or e 8 0) 1

-- of a field's code that these entries list, its entry's flag (a CARS Reporter in kind 2, a credit in kind 3); a blank field has no code
unfoldable pub listing : ℕ → List (List ℕ) → List ℕ → Option Bool
listing width es v = choose (blank v) None (option_map flag_of (entry_for width es v))

-- what stands at the places of a book
unfoldable pub listed_at : List ℕ → Book → Contents
listed_at bytes r =
    record {
      systems = entries_at bytes r.systems;
      locations = entries_at bytes r.locations;
      betcs = entries_at bytes r.betcs;
      types = entries_at bytes r.types;
      states = entries_at bytes r.states;
      countries = entries_at bytes r.countries;
      currencies = entries_at bytes r.currencies;
    }

-- a section of this kind, in which a code can be looked up
pub record ShelvedAs (bytes : List ℕ) (k : Kind) (s : Section) : Type 0 where
  pub coded : s.code ≡ k.code
  pub shelved : Shelved bytes s

-- every section of the book can be looked up in
pub record Usable (bytes : List ℕ) (r : Book) : Type 0 where
  pub systems : ShelvedAs bytes system_kind r.systems
  pub locations : ShelvedAs bytes location_kind r.locations
  pub betcs : ShelvedAs bytes betc_kind r.betcs
  pub types : ShelvedAs bytes type_kind r.types
  pub states : ShelvedAs bytes state_kind r.states
  pub countries : ShelvedAs bytes country_kind r.countries
  pub currencies : ShelvedAs bytes currency_kind r.currencies
