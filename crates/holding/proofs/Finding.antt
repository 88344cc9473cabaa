-- From what the code reads in the memory to what is found in it.
use Rattle.std.specs.Prelude.{◌≡◌, ◌≤◌, ◌+◌, ◌%◌, ◌^◌, Result, Ok, Err}
use Rattle.words.specs.Words.{arith, ℕ, List, length, refl, ◌∙◌, sym, ap, Some, true, None, false, Bool, subst, Option}
use Rattle.words.specs.Words.{some-injective, none-ne-some, lt-ltb, mod-add-mod}
use Rattle.memory.specs.Part.{part}
use Rattle.memory.specs.Number.{Bytes}
use Rattle.wire.specs.declared.Refusal.{Refusal}
use Rattle.wire.specs.declared.Refusal.TheVariants.{Unknown}
use Rattle.decoder.specs.Model.{known}
use Rattle.table.specs.declared.Shape.{Shape}
use Rattle.table.specs.RowSteps.{RowOf}
use Rattle.table.proofs.Offsets.{flags_fit, row_end}
use Rattle.placing.specs.Place.{KnownAt}
use Rattle.placing.proofs.Showing.{symbol_bytes}
use Rattle.origins.specs.Origins.{heard_in}
use Rattle.holding.specs.declared.Header.{Header}
use Rattle.history.specs.Symbol.{bytes_of}
use Rattle.history.specs.Model.{Joined, shown, finding}
use Rattle.holding.specs.Header.{header_in}
use Rattle.holding.specs.Inner.{SpottedFor, Spotted}
use Rattle.holding.proofs.Headers.{header_fits, of-joined}
use Rattle.holding.proofs.Standing.{InWindow, Stood, Hidden, side_held}
use Rattle.table.specs.Window as window
use Rattle.holding.specs.declared.Spot.{Spot}

-- ---- What is found

-- Nowhere, where the stand says so.
pub finds_outside : (m : List ℕ) (e : ℕ) (x : Refusal) → Hidden m e x → Spotted m e (Err x)
finds_outside m e x g = record {
  unopened = λ k. ap Err (g.unopened k);
  lies = g.opened;
  told = g.symbol;
}

module _ (m : List ℕ) (e d : ℕ) (h : Header) (stands : InWindow m e d h) where
  open h.setting use {width, size}

  -- In the window the symbol call goes by what is known there.
  looked : (t : Joined h.setting) → h.esi.0 ≡ t.base % 2 ^ 32
      → finding h.setting (Some t) e ≡ shown h.setting (t.base + d) (known t.window d)
  unfolding finding
  looked t b = rw (side_held e t.base h b, stands.side, lt-ltb d width stands.inside)

  module _ (r : ℕ) (w : RowOf width h.oldest d r) where
    here : (t : Joined h.setting) → h.oldest ≡ t.base % width → (t.base + d) % width ≡ r
    here t a = sym (mod-add-mod t.base width d) ∙ ap (λ x. (x + d) % width) (sym a) ∙ sym w.is

    unknown : KnownAt width size r false m → Spotted m e (Err Unknown)
    unknown u = record {
      unopened = λ z. absurd (none-ne-some h (sym z ∙ stands.has));
      lies = λ y z x. absurd (omega (arith, x));
      told = of-joined m h stands.has stands.joined (λ s t. SpottedFor m e s t (Err Unknown))
          (λ t g a b. looked t b ∙ ap (shown h.setting (t.base + d)) (u t.base d t.window stands.inside (here t a) g.rows));
    }

    row_ends : window.row_offset width size r + window.stride width size ≤ length m
    row_ends =
        let f = header_fits m h stands.has in
        omega (arith, f.room, row_end width size r w.small)

    symbol_is : Bytes m → bytes_of size (window.line width size (window.row width size r m)).sym ≡ part (window.row_offset width size r + width) size m
    symbol_is b = symbol_bytes width size r m (header_fits m h stands.has) w.small b

    known_at : Bytes m → KnownAt width size r true m
        → Spotted m e (Ok (record { at = window.row_offset width size r + width; size = size; heard = heard_in width size m r }))
    known_at b u = record {
      unopened = λ z. absurd (none-ne-some h (sym z ∙ stands.has));
      lies = λ y z.
          let i : h ≡ y = some-injective _ _ (sym stands.has ∙ z) in
          (ap (λ (x : Header). x.setting.size) i, omega (arith, flags_fit width size, row_ends));
      told = of-joined m h stands.has stands.joined
          (λ s t. SpottedFor m e s t (Ok (record { at = window.row_offset width size r + width; size = size; heard = heard_in width size m r })))
          (λ t g a c. (
            t.base + d,
            (window.line width size (window.row width size r m)).sym,
            looked t c ∙ ap (shown h.setting (t.base + d)) (u t.base d t.window stands.inside (here t a) g.rows),
            symbol_is b,
            ap (λ x. window.row_offset width size x + width) (sym (here t a)),
            refl,
            ap (heard_in width size m) (sym (here t a)),
          ));
    }

-- The same with the shape, the row and the test as the code has them.
module _ (m : List ℕ) (e d : ℕ) (shape : Shape) (g : Stood m e d shape) (r : ℕ) (w : RowOf shape.width shape.oldest d r) (t : Bool)
    (u : KnownAt shape.width shape.size r t m) where
  row_is : RowOf g.header.setting.width g.header.oldest d r
  row_is = subst (λ (x : Shape). RowOf x.width x.oldest d r) g.is w

  known_is : (x : Bool) → t ≡ x → KnownAt g.header.setting.width g.header.setting.size r x m
  known_is x q = subst (λ (y : Shape). KnownAt y.width y.size r x m) g.is (subst (λ y. KnownAt shape.width shape.size r y m) q u)

  pub finds_unknown : t ≡ false → Spotted m e (Err Unknown)
  finds_unknown q = unknown m e d g.header g.window r row_is (known_is false q)

  pub finds_at : t ≡ true → Bytes m → (a : ℕ) → a ≡ window.row_offset shape.width shape.size r + shape.width
      → (heard : Bool) → heard ≡ heard_in shape.width shape.size m r → Spotted m e (Ok (record { at = a; size = shape.size; heard = heard }))
  finds_at q b a i heard k =
      rw (i, k)
      (subst (λ (x : Shape). Spotted m e (Ok (record { at = window.row_offset x.width x.size r + x.width; size = x.size; heard = heard_in x.width x.size m r })))
      (sym g.is) (known_at m e d g.header g.window r row_is b (known_is true q)))

-- ---- What is promised of it

abbrev pub IsNowhere : Result Spot Refusal → Type 0
IsNowhere (Ok spot) = ⊥
IsNowhere (Err x) = Unit {0}

-- The memory has a header, or none.
pub by_header : (m : List ℕ) (A : Type 0) → ((h : Header) → header_in m ≡ Some h → A) → (header_in m ≡ None → A) → A
by_header m A x y = go (header_in m) refl
  where
    go : (o : Option Header) → header_in m ≡ o → A
    go None k = y k
    go (Some h) k = x h k

pub at_bounded : (m : List ℕ) (e : ℕ) (f : Result Spot Refusal) (a n : ℕ) (heard : Bool)
    → f ≡ Ok (record { at = a; size = n; heard = heard }) → Spotted m e f → a + n ≤ length m
at_bounded m e f a n heard q g =
    let h = subst (Spotted m e) q g in
    by_header m (a + n ≤ length m) (λ x k. (h.lies x k).1) (λ k. absurd (subst IsNowhere (sym (h.unopened k)) tt))
