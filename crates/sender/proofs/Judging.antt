-- A sender's openings and calls are judged as the claims say: by the promises, and by what its memory holds.
-- Index
--   fits_few, few_fits: an ADU fits the symbols of the window exactly when it needs no more
--   adds_judged
--   sender_judged, announced-only: every list of calls
--   opening_judged: every opening
use Rattle.std.specs.Prelude.{◌≡◌, ◌≤◌, ◌+◌, ◌<◌, ◌∷◌, ◌*◌, Result}
use Rattle.words.specs.Words.{arith, ℕ, List, length, refl, [], true, subst}
use Rattle.words.specs.Words.{suc-mul, mul-le-mul_right, ℕ_discrete}
use Rattle.wire.specs.declared.Setting.{Setting}
use Rattle.wire.specs.Settings.{Valid}
use Rattle.wire.specs.Packets.{symbol_count}
use Rattle.wire.specs.Flows.{Announced, announced}
use Rattle.wire.proofs.Flows.{announced_exactly, announced-not}
use Rattle.wire.proofs.Adui.{room, least}
use Rattle.wire.proofs.Opening.{allowed-setting, setting-none}
use Rattle.wire.specs.Answers.{said}
use Rattle.sender.specs.State.{Sender, header_size, header_of, Holds}
use Rattle.sender.specs.Calls.{refused, opening, adding}
use Rattle.sender.specs.Promises.{Follows, Adds}
use Rattle.sender.specs.Run.{SenderCall, added, repaired, Calls, memory_after, symbols_of}
use Rattle.sender.specs.Judged.{Takeable, AduJudged, CallJudged}
use Rattle.sender.specs.Judged.{OpeningIsJudged, SenderJudged}
use Rattle.sender.specs.Claims.{AnnouncedOnly}
use Rattle.sender.proofs.Promising.{opening_values, opening_short, opening_done, adding-stray, adding-long, adding_many, adding_short, adding_done}
use Rattle.sender.proofs.Ring.{below}
use Rattle.sender.proofs.Running.{impossible, ran, run_holds, run_valid}
use Rattle.sender.proofs.Saying.{refuses, writes}
use Rattle.sender.proofs.RepairsJudged.{repairs_judged}
use Rattle.wire.specs.declared.Refusal.{Refusal}

-- ---- the tests

-- an ADU needs no more symbols than the width exactly when it fits them with F and L before it
fits_few : (E w L : ℕ) → 0 < E → 3 + L ≤ w * E → symbol_count E L ≤ w
fits_few E w L z h = below w (symbol_count E L) (λ g. absurd (omega (arith, least E L, mul-le-mul_right E g, suc-mul w E))) (λ g. g)

few_fits : (E w L : ℕ) → 0 < E → symbol_count E L ≤ w → 3 + L ≤ w * E
few_fits E w L z h = omega (arith, room E L z, mul-le-mul_right E h)

module _ (t : Setting) (v : Valid t) (flows : List ℕ) (xs : List (List ℕ)) where
  abbrev holding : Sender
  holding = record { setting = t; flows = flows; symbols = xs }

  -- ---- adding an ADU

  adds_judged : (flow : ℕ) (adu m out : List ℕ) (r : Result ℕ Refusal) (m' out' : List ℕ) → Holds m holding → Adds flow adu m out r m' out'
      → AduJudged t flows xs m flow adu out (said r) m' out'
  unfolding header_size
  adds_judged flow adu m out r m' out' h p =
      let o = adding holding flow adu (length out) in
      let f = p.follows holding h in
      record {
        stray = λ n. refuses 16 o m m' out out' r (adding-stray flow adu (length out) holding (announced-not flows flow n)) f;
        long = λ a n. refuses 4 o m m' out out' r (too_long (is-announced a) n) f;
        short = λ a k l.
            refuses 2 o m m' out out' r
            (adding_short flow adu (length out) holding (is-announced a) (header_of holding) refl (omega (arith, k.0)) (omega (arith, few k)) l) f;
        takes = λ a k l.
            let e = adding_done flow adu (length out) holding (is-announced a) (header_of holding) refl (omega (arith, k.0)) (omega (arith, few k)) l in
            let g = subst (λ x. Follows x m out r m' out') e f in
            (writes _ _ m m' out out' r g, record { same = g.length; past = g.past });
      }
    where
      z : 0 < t.size
      z = omega (arith, v.size_least)

      few : Takeable t adu → symbol_count t.size (length adu) ≤ t.width
      few k = fits_few t.size t.width (length adu) z k.1

      is-announced : Announced flows flow → announced flows flow ≡ true
      is-announced = (announced_exactly flows flow).1

      too_long : announced flows flow ≡ true → ¬ Takeable t adu → adding holding flow adu (length out) ≡ refused 4
      too_long a n =
          below 65535 (length adu) (λ l. adding-long flow adu (length out) holding a (omega arith))
          (λ l. below t.width (symbol_count t.size (length adu))
          (λ k. adding_many flow adu (length out) holding a (header_of holding) refl (omega arith) (omega arith))
          (λ k. absurd (n (l, few_fits t.size t.width (length adu) z k))))

-- ---- every list of calls

call_judged : (t : Setting) (v : Valid t) (flows : List ℕ) (xs : List (List ℕ)) (m : List ℕ) (c : SenderCall) (l : List SenderCall)
    → Holds m (record { setting = t; flows = flows; symbols = xs }) → Calls m (c ∷ l) → CallJudged t flows xs m c
call_judged t v flows xs m (added flow adu out r m' out') l h (f, b, p, c) = adds_judged t v flows xs flow adu m out r m' out' h p
call_judged t v flows xs m (repaired key dt count out r out') l h (k, p, c) = repairs_judged t v flows xs key dt count m out r out' h p

pub sender_judged : SenderJudged
sender_judged t l r before c after e =
    let (h, d) = ran t r.flows [] r.after before (c ∷ after) (run_holds t l r) (rw e at r.calls) in
    call_judged t (run_valid t l r) r.flows (symbols_of t.size before) (memory_after r.after before) c after h d

pub announced-only : AnnouncedOnly
announced-only t l r before flow adu out n m' out' after e = go (ℕ_discrete _ 1)
  where
    go : Dec (Announced r.flows flow) → Announced r.flows flow
    go (yes a) = a
    go (no x) = absurd (impossible n 16 ((sender_judged t l r before _ after e).stray x).answer)

-- ---- opening

pub opening_judged : OpeningIsJudged
unfolding header_size
opening_judged scheme E width flows m r m' f =
    let o = opening scheme E width flows (length m) in
    record {
      values = λ n. let x = refuses 1 o m m' [] [] r (opening_values scheme E width flows m (setting-none scheme E width n)) f in (x.answer, x.memory);
      short = λ k l.
          let x = refuses 2 o m m' [] [] r (opening_short scheme E width flows m _ (allowed-setting scheme E width k) l) f in
          (x.answer, x.memory);
      opens = λ k l.
          let g = subst (λ x. Follows x m [] r m' []) (opening_done scheme E width flows m _ (allowed-setting scheme E width k) l) f in
          (g.answer, record { same = g.length; past = g.past });
    }
