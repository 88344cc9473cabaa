-- From what is found in the memory to what the symbol calls promise.
use denote.Ref.{Bor}
use Rattle.std.specs.Prelude.{◌≡◌, ◌+◌, ◌<◌, ◌%◌, Result, Ok, Err}
use Rattle.words.specs.Words.{arith, ℕ, List, length, refl, ◌∙◌, sym, ap, [], Some, true, None, false, Bool, subst, Option}
use Rattle.words.specs.Words.{inl, inr, cond, ltb, ltb-true}
use Rattle.memory.specs.Part.{LiesAt}
use Rattle.memory.proofs.Parts.{length_part}
use Rattle.wire.specs.declared.Setting.{Setting}
use Rattle.wire.specs.declared.Refusal.{Refusal}
use Rattle.wire.specs.Numbers.{number_of}
use Rattle.wire.specs.Answers.{Said, value, refusal}
use Rattle.history.specs.History.{IsValue, Side, behind, ahead, side_of}
use Rattle.history.specs.Symbol.{Symbol}
use Rattle.history.specs.Model.{Joined, State, Finding, shows, hides, shown, symbol_in, finding, Origins}
use Rattle.decoder.specs.Model.{known}
use Rattle.origins.specs.Origins.{heard_in}
use Rattle.holding.specs.Layout.{Hears}
use Rattle.holding.specs.Header.{header_in}
use Rattle.receiver.specs.Promises.{Finds, SymbolAnswered, SymbolShown, Shows, PartShown}
use Rattle.receiver.specs.Layout.{receiver_layout}
use Rattle.holding.specs.Inner.{Spotted}
use Rattle.holding.proofs.Finding.{IsNowhere, by_header}
use Rattle.holding.specs.declared.Spot.{Spot}

abbrev reason : Result Spot Refusal → ℕ
reason (Ok spot) = 0
reason (Err x) = number_of x

-- ---- Heard or solved

abbrev said_heard : Result Bool Refusal → Bool
said_heard (Ok heard) = heard
said_heard (Err x) = false

abbrev IsHidden : Result Bool Refusal → Type 0
IsHidden (Ok heard) = ⊥
IsHidden (Err x) = Unit {0}

abbrev position : {E : ℕ} → Finding E → ℕ
position (shows p v) = p
position (hides n) = 0

abbrev IsShown : {E : ℕ} → Finding E → Type 0
IsShown (shows p v) = Unit {0}
IsShown (hides n) = ⊥

module _ (s : Setting) where
  open s use {size as E, width}

  -- A symbol that is found is one of the window's.
  known-inside : (t : Joined s) (d p : ℕ) (v : Symbol E) (o : Option (Symbol E)) → shown s (t.base + d) o ≡ shows p v → p ≡ t.base + d
  known-inside t d p v None x = absurd (subst IsShown (sym x) tt)
  known-inside t d p v (Some u) x = sym (ap position x)

  side_inside : (t : Joined s) (side : Side) (p : ℕ) (v : Symbol E) → symbol_in s t side ≡ shows p v → (i : ℕ) × (i < width) × (p ≡ t.base + i)
  side_inside t behind p v x = absurd (subst IsShown (sym x) tt)
  side_inside t (ahead d) p v x = go (ltb d width) refl x
    where
      go : (b : Bool) → ltb d width ≡ b → cond b (shown s (t.base + d) (known t.window d)) (hides 12) ≡ shows p v
          → (i : ℕ) × (i < width) × (p ≡ t.base + i)
      go true l y = (d, ltb-true d width l, known-inside t d p v (known t.window d) y)
      go false l y = absurd (subst IsShown (sym y) tt)

  -- So the memory says whether it was heard.
  heard_found : (m : List ℕ) (t : State s) (e : ℕ) (H : Origins) (p : ℕ) (v : Symbol E) → Hears m s t H → finding s t e ≡ shows p v
      → heard_in width E m (p % width) ≡ H p
  unfolding finding
  heard_found m None e H p v g x = absurd (subst IsShown (sym x) tt)
  heard_found m (Some t) e H p v g x =
      let (i, l, is) = side_inside t (side_of t.base e) p v x in
      ap (λ j. heard_in width E m (j % width)) is ∙ g.window i l ∙ ap H (sym is)

-- ---- The calls

module _ (m : List ℕ) (e : ℕ) where
  found_answers : (spot : Spot) → Spotted m e (Ok spot) → SymbolAnswered receiver_layout m e (Ok 0)
  found_answers spot f = record {
    unopened = ((λ z. absurd (subst IsValue z tt)), (λ z. absurd (subst IsNowhere (sym (f.unopened z)) tt)));
    zero = λ x z. let i : 0 ≡ x = cc in omega arith;
    finds = λ s flows t k. let (p, v, x, c, y, z, h) = f.told s t k.holds in subst (λ o. Finds receiver_layout o (Ok 0)) (sym x) refl;
  }

  pub missing_answers : (x : Refusal) → Spotted m e (Err x) → SymbolAnswered receiver_layout m e (Err x)
  missing_answers x f = record {
    unopened = (
      (λ z. by_header m (header_in m ≡ None) (λ h k. absurd (f.lies h k (ap number z))) (λ k. k)),
      (λ z. ap (λ (y : Result Spot Refusal). refusal (reason y)) (f.unopened z)),
    );
    zero = λ y z. absurd (subst IsValue (sym z) tt);
    finds = λ s flows t k. subst (λ o. Finds receiver_layout o (Err x)) (sym (f.told s t k.holds)) refl;
  }
    where
      number : Said → ℕ
      number (value n) = n
      number (refusal n) = n

  -- The origin of a known symbol is what the memory says of its position.
  pub shown-found : (spot : Spot) → Spotted m e (Ok spot) → SymbolShown receiver_layout m e (Ok spot.heard)
  shown-found spot f = record {
    answered = found_answers spot f;
    origin = λ s flows t H k g p v b x y.
        let (p', v', x', c, i, z, h) = f.told s t k.holds in
        let same : p' ≡ p = ap position (sym x' ∙ x) in
        ap said_heard (sym y) ∙ h ∙ ap (λ j. heard_in s.width s.size m (j % s.width)) same ∙ heard_found s m t e H p v g x;
  }

  pub shown_missing : (x : Refusal) → Spotted m e (Err x) → SymbolShown receiver_layout m e (Err x)
  shown_missing x f = record { answered = missing_answers x f; origin = λ s flows t H k g p v b i y. absurd (subst IsHidden y tt) }

module _ (mem r : Bor (List ℕ)) (e : ℕ) where
  pub part-found : (spot : Spot) → Spotted mem.now e (Ok spot) → LiesAt r mem spot.at spot.size → PartShown receiver_layout mem r e
  part-found spot f l = record {
    unopened = λ z. absurd (subst IsNowhere (sym (f.unopened z)) tt);
    within = λ x k. inr (spot.at, subst (LiesAt r mem spot.at) (f.lies x k).0 l);
    whole = λ x k. inr (ap length l.bytes ∙ length_part spot.at spot.size mem.now (f.lies x k).1 ∙ (f.lies x k).0);
    shows = λ s flows t k.
        let (p, v, x, c, y, z, o) = f.told s t k.holds in
        subst (λ o. Shows receiver_layout s o mem r) (sym x)
        (l.bytes ∙ sym c, subst (λ j. LiesAt r mem j s.size) y (subst (LiesAt r mem spot.at) z l));
  }

  pub part_missing : (x : Refusal) → Spotted mem.now e (Err x) → r.now ≡ [] → PartShown receiver_layout mem r e
  part_missing x f l = record {
    unopened = λ _. l;
    within = λ y k. inl l;
    whole = λ y k. inl l;
    shows = λ s flows t k. subst (λ o. Shows receiver_layout s o mem r) (sym (f.told s t k.holds)) l;
  }
