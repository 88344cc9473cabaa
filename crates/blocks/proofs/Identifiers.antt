-- A payload identifier that was written is read.
use Rattle.std.specs.Prelude.{◌≡◌, ◌≤◌, ◌+◌, ◌<◌, ◌%◌, ◌*◌, ◌++◌, ◌/◌}
use Rattle.words.specs.Words.{arith, ℕ, List, length, ◌∙◌, sym, ap, length-append, take-append_seam}
use lib.Seq.{drop-append_seam}
use Rattle.memory.specs.Part.{part, splice}
use Rattle.memory.specs.Number.{number, bytes}
use Rattle.memory.proofs.Parts.{part-splice, splice_next, part-before, length-splice}
use Rattle.memory.proofs.Number.{number-bytes}
use Rattle.blocks.specs.declared.identifier.Identifier.{Identifier}
use Rattle.blocks.specs.Identifiers.{identifier_bytes, identifier_at}

-- in two steps, as it is written
pub written : (id : Identifier) (m : List ℕ) (at : ℕ) → at ≤ length m
    → splice (at + 4) (bytes 2 id.k) (splice at (bytes 4 (id.block * 256 + id.esi)) m) ≡ splice at (identifier_bytes id) m
written id m at h = splice_next at (bytes 4 (id.block * 256 + id.esi)) (bytes 2 id.k) m h

pub read_back : (id : Identifier) (m : List ℕ) (at : ℕ) → at + 6 ≤ length m → id.block < 16777216 → id.esi < 256 → id.k < 65536
    → identifier_at (splice at (identifier_bytes id) m) at ≡ id
read_back id m at h b e k =
    let v = id.block * 256 + id.esi in
    let first = splice at (bytes 4 v) m in
    let n : length first ≡ length m = length-splice at (bytes 4 v) m (omega arith) in
    let two : part (at + 4) 2 (splice at (identifier_bytes id) m) ≡ bytes 2 id.k =
    ap (part (at + 4) 2) (sym (written id m at (omega arith))) ∙ part-splice (at + 4) (bytes 2 id.k) first (omega arith) in
    let four : part at 4 (splice at (identifier_bytes id) m) ≡ bytes 4 v =
    ap (part at 4) (sym (written id m at (omega arith))) ∙ part-before at 4 (at + 4) (bytes 2 id.k) first (omega arith) (omega arith)
    ∙ part-splice at (bytes 4 v) m (omega arith) in
    let word : number (part at 4 (splice at (identifier_bytes id) m)) ≡ v = ap number four ∙ number-bytes 4 v (omega arith) in
    let x : number (part at 4 (splice at (identifier_bytes id) m)) / 256 ≡ id.block = omega arith in
    let y : number (part at 4 (splice at (identifier_bytes id) m)) % 256 ≡ id.esi = omega arith in
    let z : number (part (at + 4) 2 (splice at (identifier_bytes id) m)) ≡ id.k = ap number two ∙ number-bytes 2 id.k (omega arith) in
    λ i. record { block = x i; esi = y i; k = z i }

-- An identifier that a packet has, past what stands before it.
module _ (id : Identifier) (b : id.block < 16777216) (e : id.esi < 256) (k : id.k < 65536) where
  pub identifier_after : (x y : List ℕ) → identifier_at (x ++ (identifier_bytes id ++ y)) (length x) ≡ id
  unfolding splice
  identifier_after x y =
      let m = x ++ (identifier_bytes id ++ y) in
      let same : splice (length x) (identifier_bytes id) m ≡ m = rw (take-append_seam, drop-append_seam, drop-append_seam) in
      ap (λ l. identifier_at l (length x)) (sym same)
      ∙ read_back id m (length x) (simp length-append (omega arith)) b e k
