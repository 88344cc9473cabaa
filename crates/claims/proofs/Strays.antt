-- Flows that are not announced leave no trace: their packets are refused and change nothing, and none of their ADUs is handed out.
use Rattle.std.specs.Prelude.{◌≡◌, ◌+◌, ◌<◌, ◌%◌, ◌∷◌, ◌^◌, ◌⊎◌, Ok}
use Rattle.words.specs.Words.{arith, ℕ, List, length, refl, ◌∙◌, sym, ap, [], Some, None, true, false, Bool, subst, Option, cond}
use Rattle.words.specs.Words.{ltb, not, dec_lt, inl, inr}
use mathlib.Core.Bool.{false≢true}
use Rattle.wire.specs.declared.Setting.{Setting}
use Rattle.wire.specs.Numbers.{distance_of}
use Rattle.wire.specs.Settings.{Valid}
use Rattle.wire.specs.Opening.{working_memory}
use Rattle.wire.specs.Flows.{announced}
use Rattle.wire.specs.Answers.{Said, refusal, said}
use Rattle.wire.proofs.Settings.{setting-names}
use Rattle.wire.proofs.Flows.{announced_exactly}
use Rattle.starts.specs.Adu.{Handing, hands, withholds, handing, HandedAs}
use Rattle.starts.specs.Starts.{Starts}
use Rattle.history.specs.History.{ahead, behind, side_of, Call, source-call, repair-call, Reading, fails, reading, Log, fresh, base_of, logged, Judged, halfway}
use Rattle.history.specs.Checking.{Checked}
use Rattle.history.specs.Model.{State, adu_in, adu_at}
use Rattle.history.proofs.Laws.{history_laws}
use Rattle.receiver.specs.Promises.{Layout, AduAnswered}
use Rattle.claims.specs.Run.{Step, Run, final, read, goes_on, history}
use Rattle.claims.specs.Demand.{esi}
use Rattle.claims.specs.Handing.{IsHandedOut, HandingTold}
use Rattle.claims.specs.Strays.{is_stray, without_strays, RefusedAsStray, Strays}
use Rattle.claims.proofs.Demand.{Stands, step, opened_stands, demand}
use Rattle.claims.proofs.Handing.{its_flow, hands_out}

-- ---- Their packets

module _ (s : Setting) (flows : List ℕ) (v : Valid s) where
  -- What is read of one, whatever the base.
  record Fails (r : Reading) : Type 0 where
    number : ℕ
    is : r ≡ fails number
    one_of : (number ≡ 2) ⊎ ((number ≡ 5) ⊎ (number ≡ 16))

  stray_fails : (b room : ℕ) (c : Call) → is_stray flows c ≡ true → Fails (reading s flows b room c)
  stray_fails b room (repair-call p) e = absurd (false≢true e)
  stray_fails b room (source-call flow p) e = go (dec_lt room (working_memory s.size s.width)) (dec_lt (length p) 4)
    where
      k : Checked s flows b room (source-call flow p) (reading s flows b room (source-call flow p))
      k = history_laws.checked s v flows b room (source-call flow p)

      go : Dec (room < working_memory s.size s.width) → Dec (length p < 4) → Fails (reading s flows b room (source-call flow p))
      go (yes l) f = record { number = 2; is = k.short (λ h. omega (arith, l, h)); one_of = inl refl }
      go (no l) (yes f) = record { number = 5; is = k.form (omega (arith, l)) (λ h. omega (arith, f, h)); one_of = inr (inl refl) }
      go (no l) (no f) = record {
        number = 16;
        is = k.stray (omega (arith, l)) (omega (arith, f)) (λ h. false≢true (subst (λ b. not b ≡ true) ((announced_exactly flows flow).1 h) e));
        one_of = inr (inr refl);
      }

  refused-with : (a : Said) (n : ℕ) → a ≡ refusal n → (n ≡ 2) ⊎ ((n ≡ 5) ⊎ (n ≡ 16)) → RefusedAsStray a
  refused-with a n x (inl e) = inl (x ∙ ap refusal e)
  refused-with a n x (inr (inl e)) = inr (inl (x ∙ ap refusal e))
  refused-with a n x (inr (inr e)) = inr (inr (x ∙ ap refusal e))

  refused : (l : Log) (t : Step) → is_stray flows t.call ≡ true → Judged s l (read s flows l t) (said t.answer)
      → RefusedAsStray (said t.answer)
  refused l t e j =
      let f = stray_fails _ (length t.working) t.call e in
      refused-with (said t.answer) f.number (j.failed f.number f.is) f.one_of

-- ---- The calls but these

module _ (L : Layout) (s : Setting) (flows : List ℕ) (v : Valid s) where
  abbrev Same : (m : List ℕ) → Log → (ts us : List Step) → Type 0
  Same m l ts us = Run L m us × (goes_on s flows l us ≡ goes_on s flows l ts) × (final m us ≡ final m ts)

  without : (ts : List Step) (m : List ℕ) (l : Log) → Stands L s flows v m l → Run L m ts → Same m l ts (without_strays flows ts)
  without [] m l g r = (tt, refl, refl)
  without (t ∷ ts) m l g (b, p, r) =
      let (j, z) = step L s flows v m l t g b p in
      go j (without ts t.memory _ z r) (is_stray flows t.call) refl
    where
      us : List Step
      us = without_strays flows ts

      go : Judged s l (read s flows l t) (said t.answer) → Same t.memory (logged s l (read s flows l t) (said t.answer)) ts us
          → (x : Bool) → is_stray flows t.call ≡ x → Same m l (t ∷ ts) (cond x us (t ∷ us))
      go j (k, h, e) false i = ((b, p, k), h, e)
      go j (k, h, e) true i =
          let f = stray_fails s flows v _ (length t.working) t.call i in
          let left : t.memory ≡ m = p.refused f.number (j.failed f.number f.is) in
          let kept : logged s l (read s flows l t) (said t.answer) ≡ l = ap (λ y. logged s l y (said t.answer)) f.is in
          (subst (λ y. Run L y us) left k, ap (λ y. goes_on s flows y us) (sym kept) ∙ h, ap (λ y. final y us) (sym left) ∙ e)

-- ---- Their ADUs

-- The ADU call counts ESIs modulo 2^32.
side_esi : (base e : ℕ) → side_of base (e % 2 ^ 32) ≡ side_of base e
unfolding side_of
side_esi base e =
    let same : distance_of (e % 2 ^ 32) (base % 2 ^ 32) ≡ distance_of e (base % 2 ^ 32) = omega arith in
    ap (λ (d : ℕ). cond (ltb d halfway) (ahead d) behind) same

adu-esi : (s : Setting) (flows : List ℕ) (t : State s) (M : Starts) (room e : ℕ) → adu_at s flows t M room e ≡ adu_at s flows t M room (e % 2 ^ 32)
unfolding adu_at
adu-esi s flows None M room e = refl
adu-esi s flows (Some t) M room e = ap (adu_in s flows t M room) (sym (side_esi t.base e))

module _ (L : Layout) (s : Setting) (flows m : List ℕ) (e : ℕ) (out out' : List ℕ) (flow n : ℕ) (p : AduAnswered L m e out out' (Ok (flow, n))) where
  answered : (i : ℕ) → e % 2 ^ 32 ≡ i → AduAnswered L m i out out' (Ok (flow, n))
  answered i z = record {
    unopened = p.unopened;
    leaves = p.leaves;
    hands = λ u f t M h k.
        subst (λ x. HandedAs x out out' (Ok (flow, n))) (adu-esi u f t M (length out) e ∙ ap (adu_at u f t M (length out)) z) (p.hands u f t M h k);
  }

  after : (l : Log) (b : ℕ) → IsHandedOut L s flows m l b → announced flows flow ≡ true
  after l b o = go (dec_lt d halfway) (dec_lt d s.width)
    where
      d : ℕ
      d = distance_of e (b % 2 ^ 32)

      here : AduAnswered L m (esi (b + d)) out out' (Ok (flow, n))
      here = answered (esi (b + d)) (omega arith)

      of_flow : d < s.width → (h : Handing) → HandedAs h out out' (Ok (flow, n)) → announced flows flow ≡ true
      of_flow w (hands f adu) k =
          subst (λ x. announced flows x ≡ true) (ap its_flow (sym k.0)) (((o.calls d (omega arith)).handed w out out' (Ok (flow, n)) here f adu).0 k).2
      of_flow w (withholds x) k = absurd k

      go : Dec (d < halfway) → Dec (d < s.width) → announced flows flow ≡ true
      go (no x) w = absurd ((o.calls d (omega arith)).behind (omega (arith, x)) out out' (Ok (flow, n)) here)
      go (yes x) (no w) = absurd ((o.calls d (omega arith)).past (omega (arith, w)) x out out' (Ok (flow, n)) here)
      go (yes x) (yes w) = of_flow w (handing s.size s.width flows (length out) o.marked o.see d)
          ((o.calls d (omega arith)).order w out out' (Ok (flow, n)) here)

  announced-handed : (l : Log) → HandingTold L s flows m l → announced flows flow ≡ true
  announced-handed l h = go (base_of s l) refl
    where
      go : (o : Option ℕ) → base_of s l ≡ o → announced flows flow ≡ true
      go None z = absurd (h.before z e out out' (Ok (flow, n)) p)
      go (Some b) z = after l b (h.after b z)

pub strays : (L : Layout) → Strays L
strays L scheme E w flows m₀ m a p e ts r =
    let (s, h, told) = hands_out L scheme E w flows m₀ m a p e ts r in
    let v = (setting-names scheme E w s h).valid in
    let g = opened_stands L s flows v scheme E w m₀ m a p e h in
    let (runs, accepted, memory) = without L s flows v ts m fresh g r in (
      s,
      h,
      record {
        refused = λ before t after i k. refused s flows v (history s flows before) t k ((demand L s flows v m g ts r).calls before t after i);
        runs = runs;
        accepted = accepted;
        memory = memory;
        handed = λ i out out' flow n k. announced-handed L s flows (final m ts) i out out' flow n k (history s flows ts) told;
      },
    )
