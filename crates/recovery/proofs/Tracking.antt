-- The system of equations says what the packets say: it contradicts where they do, and it shows what they tell.
use Rattle.std.specs.Prelude.{◌≡◌, ◌↔◌, ◌⊎◌, ◌∷◌, ◌≤◌, ◌<◌}
use Rattle.words.specs.Words.{refl, inl, inr, None, Some, List, [], ℕ, arith, dec_lt, get_or}
use native.Mathlib.Decide.{dec_le}
use lib.ListN.{get_or-eq_default}
use Rattle.memory.specs.Number.{Bytes}
use Rattle.rows.proofs.Combinations.{length-tabulate, get_d_tabulate}
use Rattle.decoder.specs.Bytes.{Coded}
use Rattle.decoder.specs.Model.{State, eval, insert, known}
use Rattle.decoder.specs.Receiver.{empty, Accepted}
use Rattle.decoder.specs.Promises.{Decoder}
use Rattle.decoder.proofs.Promises.{byte_decoder}
use Rattle.decoder.proofs.Bytes.{laws}
use Rattle.decoder.proofs.History.{empty_rref, empty_sat}
use Rattle.history.specs.History.{Filling, Satisfied, Consistent, Known}
use Rattle.interpolation.specs.Lagrange.{lagrange, lagranges}
use Rattle.interpolation.proofs.Neighbours.{lagrange-lt}
use Rattle.recovery.specs.Block.{Packet, Formed, says, all_say, Heard, HeardCount, Recovered}
use Rattle.recovery.specs.Model.{equation_of, Tracks, Tracking}
use Rattle.recovery.proofs.Recovery.{recovery, heard_known}
use Rattle.decoder.specs.Packets as packets
use Rattle.history.proofs.Says as say

-- coefficients are bytes
pub lagranges-bytes : (k j : ℕ) → Bytes (lagranges k j)
unfolding lagranges
lagranges-bytes k j i = go (dec_lt i k)
  where
    go : Dec (i < k) → get_or (lagranges k j) i 0 < 256
    go (yes h) = rw (get_d_tabulate (λ i. lagrange k i j) k i h) (lagrange-lt k i j)
    go (no h) = rw (get_or-eq_default (lagranges k j) 0 {n = i} (omega (arith, length-tabulate (λ i. lagrange k i j) k))) (omega arith)

module _ (E k : ℕ) (some_bytes : 0 < E) (fits : k ≤ 255) where
  theory : Decoder (Coded E)
  theory = byte_decoder E some_bytes

  -- the equation says what the packet says
  equation-says : (p : Packet) → Formed E p → (f : Filling E) → (eval (Coded E) k (equation_of E k p) f ≡ (Coded E).null) ↔ Satisfied E (says k p) f
  unfolding packets.repair
  equation-says p w f =
      let s = say.says E some_bytes (says k p) ((record { sized = w.sized; small = w.bytes }, tt), (lagranges-bytes k p.esi, tt), refl) f in
      ((λ e. s.0 (e, tt)), (λ t. (s.1 t).0))

  begins : Tracks E k [] (empty (Coded E) k)
  begins = record { formed = tt; reduced = empty_rref (laws E some_bytes) k; same = λ f. ((λ _. tt), (λ _. empty_sat (laws E some_bytes) k f)) }

  module _ (ps : List Packet) (S : State (Coded E) k) (t : Tracks E k ps S) where
    agrees : Consistent E (all_say k ps)
    agrees = let (f, s) = theory.filling S in (f, (t.same f).0 s)

    contradicts : (p : Packet) → Formed E p → (insert S (equation_of E k p) ≡ None) ↔ ¬ Consistent E (says k p ∷ all_say k ps)
    contradicts p w =
        let c = theory.contradiction S (equation_of E k p) t.reduced in (
          (λ e (f, (s, a)). c.0 e f ((t.same f).1 a) ((equation-says p w f).1 s)),
          (λ n. c.1 (λ f s z. n (f, ((equation-says p w f).0 z, (t.same f).0 s)))),
        )

    goes_on : (T : State (Coded E) k) (p : Packet) → Formed E p → insert S (equation_of E k p) ≡ Some T → Tracks E k (p ∷ ps) T
    goes_on T p w e =
        let (r, s) = theory.addition S T (equation_of E k p) t.reduced e in
        record {
          formed = (w, t.formed);
          reduced = r;
          same = λ f. (
            (λ x. let (a, z) = (s f).0 x in ((equation-says p w f).0 z, (t.same f).0 a)),
            (λ (y, a). (s f).1 ((t.same f).1 a, (equation-says p w f).1 y)),
          );
        }

    -- what it shows is what is known
    pub known_is : (i : ℕ) → Accepted (known S i) ↔ Known E (all_say k ps) i
    known_is i =
        let c = theory.known_exactly S t.reduced i in
        ((λ a f g x y. c.0 a f g ((t.same f).1 x) ((t.same g).1 y)), (λ h. c.1 (λ f g x y. h f g ((t.same f).0 x) ((t.same g).0 y))))

    shows : (n : ℕ) → HeardCount ps n → (i : ℕ) → i < k → Accepted (known S i) ↔ ((k ≤ n) ⊎ Heard ps i)
    shows n c i l = ((λ a. enough (dec_le k n) ((known_is i).0 a)), (λ h. (known_is i).1 (heard h)))
      where
        r : Recovered E k ps n
        r = (recovery E k some_bytes fits).recovered ps t.formed n c agrees

        enough : Dec (k ≤ n) → Known E (all_say k ps) i → (k ≤ n) ⊎ Heard ps i
        enough (yes h) a = inl h
        enough (no h) a = inr ((r.part (omega arith) i l).0 a)

        heard : (k ≤ n) ⊎ Heard ps i → Known E (all_say k ps) i
        heard (inl h) = r.whole h i l
        heard (inr h) = heard_known E k some_bytes fits ps t.formed i l h

pub tracking : (E k : ℕ) → 0 < E → k ≤ 255 → Tracking E k
tracking E k e h = record {
  begins = begins E k e h;
  contradicts = λ ps S t. contradicts E k e h ps S t;
  goes_on = λ ps S T t. goes_on E k e h ps S t T;
  agrees = λ ps S t. agrees E k e h ps S t;
  right = λ ps S t i v q f a. (byte_decoder E e).known_right S i v q f ((t.same f).1 a);
  shows = λ ps S t. shows E k e h ps S t;
}
