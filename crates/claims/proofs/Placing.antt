-- The place of a symbol holds what the history says, after every list of calls that the promises allow.
use denote.Ref.{Bor}
use Rattle.std.specs.Prelude.{◌≡◌, ◌+◌, ◌<◌, Result}
use Rattle.words.specs.Words.{arith, ℕ, List, length, refl, ◌∙◌, sym, ap, Some, None, subst, Option}
use Rattle.memory.specs.Part.{part, LiesAt}
use Rattle.wire.specs.declared.Setting.{Setting}
use Rattle.wire.specs.Settings.{setting_of, Valid}
use Rattle.wire.proofs.Settings.{setting-names}
use Rattle.history.specs.Symbol.{Symbol, bytes_of}
use Rattle.wire.specs.Answers.{value, refusal, said}
use Rattle.history.specs.History.{IsValue, Filling, Located, All, fresh}
use Rattle.history.specs.Model.{Finding, shows, hides, finding}
use Rattle.receiver.specs.Promises.{Layout, Shows, Places, PlaceAnswered}
use Rattle.receiver.specs.Layout.{receiver_layout}
use Rattle.history.proofs.Sides.{found-past, found_behind, limits}
use Rattle.claims.specs.Run.{final, history}
use Rattle.claims.specs.Demand.{esi}
use Rattle.claims.specs.Placing.{PlacedExactly, Placed, EveryPlace, PartPlaced}
use Rattle.claims.proofs.Demand.{stands, From, held_fresh, held_from, at_base, symbol, found, here, exactly, value-is, opened_stands, had_setting}
use Rattle.claims.proofs.Left.{receiver_held}
use Rattle.decoder.specs.Receiver as decoder
use Rattle.wire.specs.declared.Refusal.{Refusal}

module _ (L : Layout) (s : Setting) (flows : List ℕ) (v : Valid s) (m : List ℕ) where
  open s use {size as E, width}

  place_before : L.Holds m s flows None → (e : ℕ) (a : Result ℕ Refusal) → PlaceAnswered L m e a → said a ≡ refusal 12
  unfolding finding
  place_before h e a p = p.places s flows None h

  module _ (qs : List Located) (b : ℕ) (g : From L s flows v m qs b) where
    -- What the call found.
    place_is : (d : ℕ) (o : Finding E) → finding s (Some g.state) (esi (b + d)) ≡ o → (a : Result ℕ Refusal) → PlaceAnswered L m (esi (b + d)) a
        → Places L s o m a
    place_is d o e a p = subst (λ x. Places L s x m a) e (p.places s flows (Some g.state) g.held)

    module _ (i : ℕ) (within : i < width) where
      placed_at : (o : Option (Symbol E)) → symbol L s flows v m qs b g i within ≡ o → (a : Result ℕ Refusal) → Places L s (found L s flows v m qs b g i within o) m a
          → decoder.Accepted o → (at : ℕ) × (said a ≡ value at) × ((f : Filling E) → All E qs f → part at E m ≡ bytes_of E (f (b + i)))
      placed_at None k a p h = absurd h
      placed_at (Some x) k a p h = (
        L.symbol_start s (g.state.base + i),
        p.0,
        (λ f c. p.1 ∙ ap (bytes_of E) (sym (value-is L s flows v m qs b g i within x k f c))),
      )

      lost : (o : Option (Symbol E)) (a : Result ℕ Refusal) → Places L s (found L s flows v m qs b g i within o) m a → ¬ decoder.Accepted o → said a ≡ refusal 12
      lost None a p h = p
      lost (Some x) a p h = absurd (h tt)

      placed_exactly : PlacedExactly L s m qs (b + i)
      placed_exactly =
          let o = symbol L s flows v m qs b g i within in
          let is : (a : Result ℕ Refusal) → PlaceAnswered L m (esi (b + i)) a → Places L s (found L s flows v m qs b g i within o) m a =
          place_is i (found L s flows v m qs b g i within o) (here L s flows v m qs b g i within) in
          record {
            known = λ a p k. placed_at o refl a (is a p) ((exactly L s flows v m qs b g i within).1 k);
            unknown = λ a p n. lost o a (is a p) (λ h. n ((exactly L s flows v m qs b g i within).0 h));
          }

    placed : Placed L s m qs b
    placed = record {
      window = placed_exactly;
      past = λ d w n a p. place_is d (hides 12) (at_base L s flows v m qs b g d (hides 12) (found-past s g.state d (omega (arith, limits)) n w)) a p;
      behind = λ d n h a p. place_is d (hides 8) (at_base L s flows v m qs b g d (hides 8) (found_behind s g.state d h n)) a p;
    }

pub every_place : (L : Layout) → EveryPlace L
every_place L scheme E w flows m₀ m a p e ts r =
    let (s, h) = had_setting (setting_of scheme E w) (length m₀) (sym p.answer ∙ e) in
    let v = (setting-names scheme E w s h).valid in
    let l = history s flows ts in
    let g = stands L s flows v ts m fresh (opened_stands L s flows v scheme E w m₀ m a p e h) r in (
      s,
      h,
      record {
        before = λ n. place_before L s flows v (final m ts) (held_fresh L s flows v (final m ts) l g n);
        after = λ b n. placed L s flows v (final m ts) l b (held_from L s flows v (final m ts) l g b n);
      },
    )

-- What was found at once tells the part and its place.
placed_part : (s : Setting) (o : Finding s.size) (m r : Bor (List ℕ)) (a : Result ℕ Refusal) (at : ℕ) → said a ≡ value at
    → Shows receiver_layout s o m r → Places receiver_layout s o m.now a → LiesAt r m at s.size
placed_part s (shows p v) m r a at z (b, l) (x, y) =
    let i : receiver_layout.symbol_start s p ≡ at = cc in
    subst (λ n. LiesAt r m n s.size) i l
placed_part s (hides n) m r a at z l x = absurd (subst IsValue (sym z ∙ x) tt)

pub part_placed : PartPlaced
part_placed E width m r k e p a q at z =
    let h = receiver_held E width m.now k in
    let s = h.setting in
    subst (LiesAt r m at) h.size
    (placed_part s (finding s h.state e) m r a at z (p.shows s h.flows h.state h.held) (q.places s h.flows h.state h.held))
