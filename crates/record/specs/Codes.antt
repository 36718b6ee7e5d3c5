-- The record codes of 004 section 1.2, in EBCDIC (01 Bytes).
use Rattle.std.specs.Prelude.{ℕ, Bool, true, false, List, [], ◌∷◌}
use Rattle.record.specs.declared.codes.Letter.{Letter}
use Rattle.record.specs.declared.codes.Letter.TheVariants.{N, C, W, I, A}
use Rattle.record.specs.declared.codes.Code.{Code}
use Rattle.record.specs.declared.codes.Code.TheVariants.{FileHeader, Batch, Detail, Party, Account, Procurement, BatchTrailer, FileTrailer, Unknown}
use Rattle.record.specs.Choice.{choose}
use Rattle.record.specs.Fields.{record_code}
use Rattle.record.specs.Value.{held}
use Rattle.record.specs.Tests.{alike}

-- the letter of a kind of batch, and of its details
unfoldable pub letter_byte : Letter → ℕ
letter_byte N = 0xD5
letter_byte C = 0xC3
letter_byte W = 0xE6
letter_byte I = 0xC9
letter_byte A = 0xC1

-- the two bytes of each code
unfoldable pub code_bytes : Code → List ℕ
code_bytes FileHeader = 0xC6 ∷ 0xC8 ∷ []  -- FH
code_bytes (Batch l) = 0xC2 ∷ letter_byte l ∷ []  -- BN, BC, BW, BI, BA
code_bytes (Detail l) = 0xC4 ∷ letter_byte l ∷ []  -- DN, DC, DW, DI, DA
code_bytes Party = 0xC4 ∷ 0xE7 ∷ []  -- DX
code_bytes Account = 0xC4 ∷ 0xE3 ∷ []  -- DT
code_bytes Procurement = 0xC4 ∷ 0xD7 ∷ []  -- DP
code_bytes BatchTrailer = 0xC2 ∷ 0xE3 ∷ []  -- BT
code_bytes FileTrailer = 0xC6 ∷ 0xE3 ∷ []  -- FT
code_bytes Unknown = []  -- no code

-- the sixteen codes, in the order in which the code asks for them: an order that cannot matter, since no two share their bytes
abbrev pub frames : List Code
frames = FileHeader ∷ BatchTrailer ∷ FileTrailer ∷ []

abbrev pub batches : List Code
batches = Batch N ∷ Batch C ∷ Batch W ∷ Batch I ∷ Batch A ∷ frames

abbrev pub details : List Code
details = Detail N ∷ Detail C ∷ Detail W ∷ Detail I ∷ Detail A ∷ batches

abbrev pub codes : List Code
codes = Party ∷ Account ∷ Procurement ∷ details

-- the code among these whose two bytes these are
unfoldable pub code_in : List Code → List ℕ → Code
code_in [] xs = Unknown
code_in (c ∷ cs) xs = choose (alike xs (code_bytes c)) c (code_in cs xs)

-- what a record is, by its first two bytes (01 Bytes)
unfoldable pub code_of : List ℕ → Code
code_of rec = code_in codes (held rec record_code)

-- a detail: DN, DC, DW, DI or DA (004 section 1.2)
unfoldable pub is_detail : Code → Bool
is_detail FileHeader = false
is_detail (Batch l) = false
is_detail (Detail l) = true
is_detail Party = false
is_detail Account = false
is_detail Procurement = false
is_detail BatchTrailer = false
is_detail FileTrailer = false
is_detail Unknown = false

-- a batch header: BN, BC, BW, BI or BA (004 section 1.2)
unfoldable pub is_header : Code → Bool
is_header FileHeader = false
is_header (Batch l) = true
is_header (Detail l) = false
is_header Party = false
is_header Account = false
is_header Procurement = false
is_header BatchTrailer = false
is_header FileTrailer = false
is_header Unknown = false

-- a batch trailer: BT (004 section 1.2)
unfoldable pub is_trailer : Code → Bool
is_trailer FileHeader = false
is_trailer (Batch l) = false
is_trailer (Detail l) = false
is_trailer Party = false
is_trailer Account = false
is_trailer Procurement = false
is_trailer BatchTrailer = true
is_trailer FileTrailer = false
is_trailer Unknown = false

-- the letter of a code; a code that has none, which no batch begins with, stands for N
unfoldable pub letter_in : Code → Letter
letter_in FileHeader = N
letter_in (Batch l) = l
letter_in (Detail l) = l
letter_in Party = N
letter_in Account = N
letter_in Procurement = N
letter_in BatchTrailer = N
letter_in FileTrailer = N
letter_in Unknown = N
