-- A filling that carries a list of symbols holds every stretch of them; and there is one.
use Rattle.std.specs.Prelude.{◌≡◌, ◌≤◌, ◌+◌, ◌<◌, ◌∷◌, ◌++◌}
use Rattle.words.specs.Words.{arith, ℕ, List, length, ◌∙◌, sym, ap, [], suc, zero, get_or, drop, take, length-append, length-drop}
use Rattle.words.specs.Words.{length-take, get_or-drop, get_or-append, ext_get_or, take-append_seam, get_or-take}
use lib.Seq.{drop_at, get_or-append_seam}
use Rattle.history.specs.Symbol.{bytes_of, symbol_of}
use Rattle.history.specs.History.{Filling, symbols_at}
use Rattle.history.proofs.Says.{bytes_symbol, length_at, get_d_at}
use Rattle.sender.specs.Claims.{AreSymbols}
use Rattle.claims.specs.Carrying.{Carries}

-- The bytes of a stretch of positions are the stretch of symbols that lies there.
pub carried_stretch : (E join offset : ℕ) (all : List (List ℕ)) (f : Filling E) → Carries E join offset all f → (p n : ℕ) → join ≤ p
    → p + offset + n ≤ length all → symbols_at E f p n ≡ take n (drop (p + offset) all)
carried_stretch E join offset all f c p n j h =
    let k : length (symbols_at E f p n) ≡ n = length_at E f p n in
    ext_get_or [] (symbols_at E f p n) (take n (drop (p + offset) all)) (k ∙ simp (length-take, length-drop) (omega arith))
    (λ i l.
    get_d_at E f p n i (omega arith) ∙ c (p + i) (omega arith) (omega arith)
    ∙ sym (get_or-take n (drop (p + offset) all) i [] (omega arith) ∙ get_or-drop (p + offset) all i [] ∙ ap (λ j. get_or all j []) (omega arith)))

pub stretch : (E join offset : ℕ) (f : Filling E) (before ys after all : List (List ℕ)) → all ≡ before ++ (ys ++ after) → Carries E join offset all f
    → (p : ℕ) → join ≤ p → p + offset ≡ length before → symbols_at E f p (length ys) ≡ ys
stretch E join offset f before ys after all e c p j o =
    let n : length all ≡ length before + (length ys + length after)
    = ap length e ∙ length-append before (ys ++ after) ∙ ap (λ (i : ℕ). length before + i) (length-append ys after) in
    carried_stretch E join offset all f c p (length ys) j (omega arith)
    ∙ rw (e, drop_at before (ys ++ after) (p + offset) (sym o), take-append_seam ys after)

-- The filling of a list of symbols.
abbrev pub filler : (E offset : ℕ) → List (List ℕ) → Filling E
filler E offset all i = symbol_of E (get_or all (i + offset) [])

-- Whatever stands after the symbols.
filler_more : (E offset : ℕ) (all more : List (List ℕ)) → AreSymbols E all → Carries E 0 offset all (filler E offset (all ++ more))
filler_more E offset all more h =
    λ p j l.
    ap (λ (v : List ℕ). bytes_of E (symbol_of E v)) (get_or-append all more [] (p + offset) l)
    ∙ bytes_symbol E (get_or all (p + offset) []) (record { sized = h.sized (p + offset) l; small = h.small (p + offset) })

pub filler_carries : (E offset : ℕ) (all : List (List ℕ)) → AreSymbols E all → Carries E 0 offset all (filler E offset all)
filler_carries E offset all h =
    λ p j l. bytes_symbol E (get_or all (p + offset) []) (record { sized = h.sized (p + offset) l; small = h.small (p + offset) })

-- Symbols of some bytes are more than one.
two-symbols : (E : ℕ) → 0 < E → symbol_of E [] ≡ symbol_of E (1 ∷ []) → ⊥
two-symbols zero z e = absurd (omega arith)
two-symbols (suc E) z e = let q : ◌≡◌ {A = ℕ} 0 1 = ap (λ u. u.0.0) e in omega arith

-- So two fillings carry the symbols and differ at the position after them.
pub record Differ (E offset : ℕ) (all : List (List ℕ)) : Type 0 where
  pub one : Filling E
  pub other : Filling E
  pub one_carries : Carries E 0 offset all one
  pub other_carries : Carries E 0 offset all other
  pub apart : (p : ℕ) → p + offset ≡ length all → one p ≡ other p → ⊥

pub differ : (E offset : ℕ) → 0 < E → (all : List (List ℕ)) → AreSymbols E all → Differ E offset all
differ E offset z all h = record {
  one = filler E offset (all ++ ([] ∷ []));
  other = filler E offset (all ++ ((1 ∷ []) ∷ []));
  one_carries = filler_more E offset all ([] ∷ []) h;
  other_carries = filler_more E offset all ((1 ∷ []) ∷ []) h;
  apart = λ p o e.
      let at : (v : List ℕ) → symbol_of E (get_or (all ++ (v ∷ [])) (p + offset) []) ≡ symbol_of E v =
      λ v. ap (λ i. symbol_of E (get_or (all ++ (v ∷ [])) i [])) o ∙ ap (symbol_of E) (get_or-append_seam all v [] []) in
      two-symbols E z (sym (at []) ∙ e ∙ at (1 ∷ []));
}
