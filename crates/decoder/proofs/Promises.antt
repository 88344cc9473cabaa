-- The promises of the decoder, for any field and at the field of bytes.
use Rattle.std.specs.Prelude.{◌≡◌, ◌<◌, ◌≢◌, ◌↔◌}
use Rattle.words.specs.Words.{arith, ℕ, List, refl, ◌∙◌, sym, ap, Some, None, subst, Option, xor_lt}
use Rattle.words.specs.Words.{some-ne-none}
use lib.Bits.{and_lt}
use Rattle.field.proofs.Binary.{product_binary}
use Rattle.field.proofs.Laws.{inverse-is, product-one}
use Rattle.decoder.specs.Field.{Ops, Laws}
use Rattle.decoder.specs.Model.{Filling, Row, eval, State, Sat, Rref, insert, known}
use Rattle.decoder.specs.Receiver.{Accepted, Packet, opened, run}
use Rattle.decoder.specs.Bytes.{byte, bytes, Coded}
use Rattle.decoder.specs.Promises.{Locates, Demand3, Decoder, ByteDecoder, Scheme9}
use Rattle.decoder.proofs.Bytes.{bytes_laws, laws, byte-sum-number, byte-product-number}
use Rattle.decoder.proofs.Symbols as symbols
use Rattle.decoder.proofs.Elimination as elimination
use Rattle.decoder.proofs.Canonical as canonical
use Rattle.decoder.proofs.History as history
use Rattle.decoder.proofs.Packets as packets

module _ {O : Ops} (L : Laws O) where
  open O use {Sym, null}

  -- A system has a filling, so an equation that some filling satisfies is not refused.
  contradiction : {n : ℕ} (S : State O n) (e : Row O n) → Rref S
      → (insert S e ≡ None) ↔ ((x : Filling O) → Sat S x → eval O n e x ≢ null)
  contradiction {n} S e f = go (insert S e) (elimination.insert_added L S e f)
    where
      go : (o : Option (State O n)) → elimination.Added L S e o → (o ≡ None) ↔ ((x : Filling O) → Sat S x → eval O n e x ≢ null)
      go None h = ((λ _. h), (λ _. refl))
      go (Some S') h = (
        (λ i. absurd (some-ne-none S' i)),
        (λ no.
            let x = elimination.solution L S' in
            let (s, z) = (h.1 x).0 (elimination.solution_sat L S') in
            absurd (no x s z)),
      )

  known_exactly : {n : ℕ} (S : State O n) → Rref S → (i : ℕ)
      → Accepted (known S i) ↔ ((x y : Filling O) → Sat S x → Sat S y → x i ≡ y i)
  known_exactly {n} S f i = go (known S i) refl
    where
      go : (o : Option Sym) → known S i ≡ o → Accepted o ↔ ((x y : Filling O) → Sat S x → Sat S y → x i ≡ y i)
      go None k = ((λ a. absurd a), (λ all. let (x, y, s, t, q) = elimination.known_complete L S i f k in q (all x y s t)))
      go (Some v) k = ((λ _ x y s t. elimination.known_sound L S i v k x s ∙ sym (elimination.known_sound L S i v k y t)), (λ _. tt))

  pub decoder : Decoder O
  decoder = record {
    filling = λ S. (elimination.solution L S, elimination.solution_sat L S);
    contradiction = contradiction;
    addition = λ S S' e f i. subst (λ o. elimination.Added L S e o) i (elimination.insert_added L S e f);
    projection = history.advance_by_sat L;
    known_exactly = known_exactly;
    known_right = elimination.known_sound L;
    canonical = canonical.canonical L;
    source-says = packets.source_satisfies L;
    repair-says = packets.repair_satisfies L;
    order = history.same_known L;
    demand_3 = history.demand_3 L;
  }

-- At bytes, and demand 3 by itself.
pub byte_decoder : ByteDecoder
byte_decoder E h = decoder (laws E h)

pub byte_demand_3 : (E : ℕ) → 0 < E → {w : ℕ} {Call : Type 0} (locate : Call → ℕ → Option (Packet (Coded E))) → Locates w locate
    → (base : ℕ) (cs : List Call) → Demand3 (run locate (opened (Coded E) w base) cs)
byte_demand_3 E h = (byte_decoder E h).demand_3

pub scheme_9 : (E : ℕ) → Scheme9 E
scheme_9 E = record {
  sum = λ c d x y. (byte-sum-number c d, xor_lt 1 c.0 d.0 x y);
  product = λ c d x y. (byte-product-number c d ∙ product_binary c.0 d.0 x y, and_lt 1 c.0 d.0 x y);
  inverse = ap byte (inverse-is 1 1 (omega arith) (product-one 1 (omega arith)));
  keeps = symbols.one-times bytes bytes_laws E;
  drops = symbols.zero-times bytes bytes_laws E;
}
