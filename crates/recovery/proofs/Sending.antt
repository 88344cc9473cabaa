-- An encoder's packets: the block itself satisfies all of them, so they agree, and what they tell is the block.
use Rattle.std.specs.Prelude.{◌≡◌, ◌↔◌, ◌∷◌, ◌≤◌, ◌<◌}
use Rattle.words.specs.Words.{refl, sym, ap, List, [], ℕ, arith, dec_lt, get_or}
use lib.ListN.{get_or-eq_default}
use Rattle.rows.proofs.Combinations.{length-combination}
use Rattle.history.specs.History.{Filling, symbols_at, Satisfied, All, Known}
use Rattle.history.proofs.Says.{bytes_whole, head}
use Rattle.interpolation.specs.Lagrange.{lagranges}
use Rattle.interpolation.proofs.Standard.{encoded-lt}
use Rattle.recovery.specs.Block.{Packet, Formed, AllFormed, says, all_say, byte_at, HeardCount}
use Rattle.recovery.specs.Sent.{made, all_made, Small, Sending}
use Rattle.recovery.proofs.Bytewise.{combination-byte}
use Rattle.recovery.proofs.Recovery.{recovery}

module _ (E k : ℕ) (some_bytes : 0 < E) (fits : k ≤ 255) (f : Filling E) where
  byte : (j b : ℕ) → Dec (b < E) → get_or (made E k f j).symbol b 0 < 256
  byte j b (yes h) =
      rw (combination-byte E k f j b h) (encoded-lt k fits (byte_at E f b) (λ i l. (bytes_whole E (f i)).small b) j)
  byte j b (no h) =
      rw (get_or-eq_default (made E k f j).symbol 0 {n = b} (omega (arith, length-combination E (lagranges k j) (symbols_at E f 0 k)))) (omega arith)

  formed_one : (j : ℕ) → j < 255 → Formed E (made E k f j)
  formed_one j h = record { small = h; sized = length-combination E (lagranges k j) (symbols_at E f 0 k); bytes = λ b. byte j b (dec_lt b E) }

  formed : (js : List ℕ) → Small js → AllFormed E (all_made E k f js)
  formed [] s = tt
  formed (j ∷ js) s = (formed_one j s.0, formed js s.1)

  own : (p : Packet) → Satisfied E (says k p) f ↔ (p ≡ made E k f p.esi)
  own p = (
    (λ s. ap (λ (v : List ℕ). record { esi = p.esi; symbol = v }) (sym (ap head s))),
    (λ e. ap (λ (q : Packet). q.symbol ∷ []) (sym e)),
  )

  satisfied : (js : List ℕ) → All E (all_say k (all_made E k f js)) f
  satisfied [] = tt
  satisfied (j ∷ js) = (refl, satisfied js)

  whole : (js : List ℕ) → Small js → (n : ℕ) → HeardCount (all_made E k f js) n → k ≤ n → (i : ℕ) → i < k → Known E (all_say k (all_made E k f js)) i
  whole js s n c = ((recovery E k some_bytes fits).recovered (all_made E k f js) (formed js s) n c (f, satisfied js)).whole

  pub sending : Sending E k f
  sending = record {
    one_formed = formed_one;
    formed = formed;
    sources = λ i h. sym (((recovery E k some_bytes fits).sources (made E k f i) (formed_one i (omega arith)) h f).0 refl);
    own = own;
    satisfied = satisfied;
    consistent = λ js. (f, satisfied js);
    right = λ js i h g a. h g f a (satisfied js);
    whole = whole;
  }
