-- What memories hear that agree past their rows, and what is as it was when nothing but the bytes of origins has changed.
use Rattle.std.specs.Prelude.{◌≡◌, ◌≤◌, ◌+◌, ◌<◌, ◌%◌}
use Rattle.words.specs.Words.{arith, ℕ, List, length, ◌∙◌, sym, ap, get_or, take, ltb, dec_lt, ext_get_or, get_or-take, inl, inr}
use Rattle.words.specs.Words.{length-take, min}
use Rattle.decoder.specs.Bytes.{Coded}
use Rattle.decoder.specs.Model.{State}
use Rattle.table.specs.Window.{stride, row_offset, Window}
use Rattle.table.proofs.Offsets.{flags_fit, row_end}
use Rattle.table.proofs.Holding.{window_same}
use Rattle.history.specs.Model.{Origins, bringing}
use Rattle.origins.specs.Origins.{origin_at, Hears}
use Rattle.origins.specs.Steps.{OnlyOrigins}
use Rattle.origins.proofs.Filling.{brought_out}

-- The same bytes past the rows, and the same positions.
pub hears_same : (w E b : ℕ) (m m' : List ℕ) (H : Origins) → 0 < w → ((k : ℕ) → row_offset w E w ≤ k → get_or m' k 0 ≡ get_or m k 0) → Hears w E b m H
    → Hears w E b m' H
hears_same w E b m m' H pos same h = record {
  window = λ i l. ap (ltb 0) (same (origin_at w E ((b + i) % w)) (omega arith)) ∙ h.window i l;
  later = h.later;
}

pub hears_alike : (w E b : ℕ) (m : List ℕ) (H K : Origins) → ((x : ℕ) → H x ≡ K x) → Hears w E b m H → Hears w E b m K
hears_alike w E b m H K alike h = record {
  window = λ i l. h.window i l ∙ alike (b + i);
  later = λ i l. sym (alike (b + i)) ∙ h.later i l;
}

-- A packet that brings none.
pub bringing-none : (x : ℕ) (H : Origins) (y : ℕ) → bringing x 0 H y ≡ H y
bringing-none x H y = go (dec_lt y x)
  where
    go : Dec (y < x) → bringing x 0 H y ≡ H y
    go (yes l) = brought_out x 0 y H (inl l)
    go (no l) = brought_out x 0 y H (inr (omega arith))

-- The rows, and the system that they hold.
pub origins-row : {w E : ℕ} {m m' : List ℕ} → OnlyOrigins w E m m' → (r k : ℕ) → r < w → k < stride w E
    → get_or m' (row_offset w E r + k) 0 ≡ get_or m (row_offset w E r + k) 0
origins-row {w} {E} o r k l h = o.before (row_offset w E r + k) (omega (arith, row_end w E r l))

pub origins-window : {w E : ℕ} {m m' : List ℕ} → 0 < w → OnlyOrigins w E m m' → (b : ℕ) (S : State (Coded E) w) → Window w E m b S → Window w E m' b S
origins-window {w} {E} {m} {m'} pos o = window_same w E m m' pos (λ r l k n. origins-row o r k l (omega (arith, flags_fit w E)))

-- The header, or anything else up to the end of the rows.
pub only-take : {w E : ℕ} {m m' : List ℕ} → OnlyOrigins w E m m' → (n : ℕ) → n ≤ row_offset w E w → take n m' ≡ take n m
only-take {w} {E} {m} {m'} o n h = ext_get_or 0 (take n m') (take n m) (length-take n m' ∙ ap (min n) o.size ∙ sym (length-take n m)) same
  where
    same : (i : ℕ) → i < length (take n m') → get_or (take n m') i 0 ≡ get_or (take n m) i 0
    same i l =
        let k : i < n = omega (arith, length-take n m') in
        get_or-take n m' i 0 k ∙ o.before i (omega arith) ∙ sym (get_or-take n m i 0 k)
