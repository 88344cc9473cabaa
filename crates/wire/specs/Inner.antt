-- Contracts of inner functions: a reader need not believe these.
use Rattle.std.specs.Prelude.{◌-◌, ◌++◌, ◌+◌, ◌%◌, ◌^◌}
use Rattle.words.specs.Words.{ℕ, List, length, take}
use Rattle.wire.specs.Packets.{zeros}

-- the first n bytes of l, and zero bytes where it has fewer
unfoldable pub padded : ℕ → List ℕ → List ℕ
padded n l = take n l ++ zeros (n - length l)

-- the ESI n symbols after e, modulo 2^32
abbrev pub esi_after : ℕ → ℕ → ℕ
esi_after e n = (e + n) % 2 ^ 32

-- the ESI n symbols before e, modulo 2^32
abbrev pub esi_before : ℕ → ℕ → ℕ
esi_before e n = (e + 2 ^ 32 - n) % 2 ^ 32
