-- The bytes of source and repair packets (document 01, "Packets"; RFC 8681, sections 3.2, 4.1.2, 4.1.3): how they are written, and how they are read.
-- Numbers stand with the most significant byte first.
use Rattle.std.specs.Prelude.{◌≡◌, ◌+◌, ◌-◌, ◌%◌, ◌∷◌, ◌*◌, ◌++◌, ◌/◌, ◌&&◌}
use Rattle.words.specs.Words.{ℕ, List, length, [], suc, zero, Bool, drop, take, leb, eqb, replicate}
use Rattle.memory.specs.Part.{part}
use Rattle.memory.specs.Number.{number, bytes}
use Rattle.wire.specs.Numbers.{within}

-- n zero bytes
abbrev pub zeros : ℕ → List ℕ
zeros n = replicate n 0

-- the bytes of a list of symbols, one after the other
abbrev pub joined : List (List ℕ) → List ℕ
joined [] = []
joined (s ∷ l) = s ++ joined l

-- the first n stretches of s bytes
abbrev pub chunks : ℕ → ℕ → List ℕ → List (List ℕ)
chunks zero s m = []
chunks (suc n) s m = take s m ∷ chunks n s (drop s m)

-- every symbol has E bytes
abbrev pub Sized : ℕ → List (List ℕ) → Type 0
Sized E [] = Unit {0}
Sized E (x ∷ xs) = (length x ≡ E) × Sized E xs

-- an ADU has at most so many bytes: its length stands in two
abbrev pub longest_adu : ℕ
longest_adu = 65535

-- how many symbols of E bytes the ADUI of an ADU of L bytes takes: 3 + L bytes, the last symbol padded
unfoldable pub symbol_count : ℕ → ℕ → ℕ
symbol_count E L = (3 + L + (E - 1)) / E

-- the ADUI: flow, length of the ADU in two bytes, the ADU, zero bytes up to a multiple of E
unfoldable pub adui : ℕ → List ℕ → ℕ → List ℕ
adui flow adu E = flow ∷ bytes 2 (length adu) ++ (adu ++ zeros (symbol_count E (length adu) * E - (3 + length adu)))

-- the source symbols of an ADU: its ADUI, cut into stretches of E bytes
unfoldable pub source_symbols : ℕ → List ℕ → ℕ → List (List ℕ)
source_symbols flow adu E = chunks (symbol_count E (length adu)) E (adui flow adu E)

-- the i-th of them, where it lies in the ADUI
abbrev pub symbol_at : ℕ → List ℕ → ℕ → ℕ → List ℕ
symbol_at flow adu E i = part (i * E) E (adui flow adu E)

-- a source packet: the ADU, then the ESI of its first symbol in four bytes
unfoldable pub source_packet : List ℕ → ℕ → List ℕ
source_packet adu esi = adu ++ bytes 4 esi

-- a packet that has the form of a source packet
unfoldable pub source_form : List ℕ → Bool
source_form p = leb 4 (length p)

-- the ADU of a source packet, and the ESI of its first symbol
unfoldable pub source_adu : List ℕ → List ℕ
source_adu p = take (length p - 4) p

unfoldable pub source_esi : List ℕ → ℕ
source_esi p = number (part (length p - 4) 4 p)

-- the header of a repair packet: key in 16 bits, DT in 4, number of symbols protected (NSS) in 12, ESI of the first of them in 32
unfoldable pub repair_header : ℕ → ℕ → ℕ → ℕ → List ℕ
repair_header key dt nss first = bytes 2 key ++ (bytes 2 (dt * 4096 + nss) ++ bytes 4 first)

-- a repair packet: its header, then its repair symbols
unfoldable pub repair_packet : ℕ → ℕ → ℕ → ℕ → List (List ℕ) → List ℕ
repair_packet key dt nss first symbols = repair_header key dt nss first ++ joined symbols

-- a repair packet has at most so many repair symbols
abbrev pub most_repairs : ℕ
most_repairs = 16

-- how many repair symbols of E bytes a repair packet has
unfoldable pub repair_count : ℕ → List ℕ → ℕ
repair_count E p = (length p - 8) / E

-- a packet that has the form of a repair packet: a header of 8 bytes and 1 to 16 symbols of E bytes
unfoldable pub repair_form : ℕ → List ℕ → Bool
repair_form E p = within 1 most_repairs (repair_count E p) && eqb (length p) (8 + repair_count E p * E)

-- the fields of a repair packet, and its symbols
unfoldable pub repair_key : List ℕ → ℕ
repair_key p = number (part 0 2 p)

unfoldable pub density_threshold : List ℕ → ℕ
density_threshold p = number (part 2 2 p) / 4096

unfoldable pub protected_count : List ℕ → ℕ
protected_count p = number (part 2 2 p) % 4096

unfoldable pub first_esi : List ℕ → ℕ
first_esi p = number (part 4 4 p)

unfoldable pub repair_symbols : ℕ → List ℕ → List (List ℕ)
repair_symbols E p = chunks (repair_count E p) E (drop 8 p)
