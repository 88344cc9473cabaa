-- The equation that a laid row spells is the model's: coefficients at the positions from the `d`th of the window on, and a symbol.
use Rattle.std.specs.Prelude.{◌≡◌, ◌≤◌, ◌+◌, ◌<◌, ◌%◌, ◌∷◌, ◌≢◌}
use Rattle.words.specs.Words.{arith, ℕ, List, length, refl, ◌∙◌, sym, ap, [], suc, zero, get_or, ap₂, mod-lt, ℕ_discrete}
use Rattle.words.specs.Words.{mod-add-mod}
use Rattle.decoder.specs.Bytes.{byte, byte_path, Coded}
use Rattle.decoder.specs.Receiver.{embed}
use Rattle.decoder.specs.Packets.{row, only}
use Rattle.decoder.specs.Stretch.{symbol_cut_at}
use Rattle.decoder.proofs.Bytes.{laws, byte-zero}
use Rattle.decoder.proofs.Packets.{read_embed}
use Rattle.decoder.proofs.Stretch.{remainders}
use Rattle.table.specs.Window.{line, equation}
use Rattle.gather.specs.Gather.{Laid}

-- The same bytes elsewhere are the same symbol.
pub symbol_moved : (n o p : ℕ) (s t : List ℕ) → ((i : ℕ) → i < n → get_or s (o + i) 0 ≡ get_or t (p + i) 0) → symbol_cut_at n o s ≡ symbol_cut_at n p t
symbol_moved zero o p s t h = refl
symbol_moved (suc n) o p s t h =
    let x : o + 0 ≡ o = omega arith in
    let y : p + 0 ≡ p = omega arith in
    ap₂ (λ a v. (a, v)) (ap byte (ap (λ k. get_or s k 0) (sym x) ∙ h 0 (omega arith) ∙ ap (λ k. get_or t k 0) y))
    (symbol_moved n (suc o) (suc p) s t
    (λ i l.
    let u : suc o + i ≡ o + suc i = omega arith in
    let v : p + suc i ≡ suc p + i = omega arith in
    ap (λ k. get_or s k 0) u ∙ h (suc i) (omega arith) ∙ ap (λ k. get_or t k 0) v))

module _ (w E first : ℕ) (cs l : List ℕ) (pos : 0 < w) (size : 0 < E) (f : Laid w first cs l) (b d : ℕ) (e : (b + d) % w ≡ first)
    (room : d + length cs ≤ w) where
  column : (i : ℕ) → (b + d + i) % w ≡ (first + i) % w
  column i = sym (mod-add-mod (b + d) w i) ∙ ap (λ k. (k + i) % w) e

  elsewhere : (j : ℕ) → b ≤ j → j < b + w → ((i : ℕ) → i < length cs → b + d + i ≢ j) → (line w E l).cells j ≡ (Coded E).𝟘
  elsewhere j g h n =
      byte-zero _ (f.off (j % w) (mod-lt j pos)
      (λ i c q. n i c (remainders w b (b + d + i) j (omega arith) (omega arith) g h (column i ∙ q))))

  pub spells : equation w E b l ≡ embed (Coded E) w d (length cs) (row (Coded E) (length cs) (λ i. byte (get_or cs i 0)) (symbol_cut_at E w l))
  spells =
      read_embed (laws E size) w b d (b + d) (length cs) (line w E l) (λ i. byte (get_or cs i 0)) refl room
      (λ j g h. elsewhere j g (omega arith) (λ i c. omega arith))
      (λ i h. ap (λ k. byte (get_or l k 0)) (column i) ∙ ap byte (f.on i h))
      (λ j g h. elsewhere j (omega arith) h (λ i c. omega arith))

only_same : (E i : ℕ) → only (Coded E) i i ≡ (Coded E).𝟙
unfolding only
only_same E zero = refl
only_same E (suc i) = only_same E i

only_other : (E i j : ℕ) → i ≢ j → only (Coded E) i j ≡ (Coded E).𝟘
unfolding only
only_other E zero zero d = absurd (d refl)
only_other E zero (suc j) d = refl
only_other E (suc i) zero d = refl
only_other E (suc i) (suc j) d = only_other E i j (λ e. d (ap suc e))

-- The coefficient one alone, at the `i`th of the `n` positions from the `d`th of the window on: a symbol of a source packet.
module _ (w E first : ℕ) (l : List ℕ) (pos : 0 < w) (size : 0 < E) (f : Laid w first (1 ∷ []) l) (b d n i : ℕ)
    (e : (b + (d + i)) % w ≡ first) (h : i < n) (room : d + n ≤ w) where
  void : (j : ℕ) → b ≤ j → j < b + w → b + (d + i) ≢ j → (line w E l).cells j ≡ (Coded E).𝟘
  void j g k m = elsewhere w E first (1 ∷ []) l pos size f b (d + i) e (omega arith) j g k (λ x c q. m (omega arith))

  cells : (j : ℕ) → j < n → Dec (i ≡ j) → (line w E l).cells (b + d + j) ≡ only (Coded E) i j
  cells j k (yes q) =
      let x : b + d + j ≡ b + (d + i) + 0 = omega arith in
      ap (λ p. byte (get_or l (p % w) 0)) x
      ∙ ap (λ p. byte (get_or l p 0)) (column w E first (1 ∷ []) l pos size f b (d + i) e (omega arith) 0)
      ∙ ap byte (f.on 0 (omega arith))
      ∙ byte_path refl
      ∙ sym (only_same E i)
      ∙ ap (only (Coded E) i) q
  cells j k (no q) = void (b + d + j) (omega arith) (omega arith) (omega arith) ∙ sym (only_other E i j q)

  pub spells_one : equation w E b l ≡ embed (Coded E) w d n (row (Coded E) n (only (Coded E) i) (symbol_cut_at E w l))
  spells_one =
      read_embed (laws E size) w b d (b + d) n (line w E l) (only (Coded E) i) refl room
      (λ j g k. void j g (omega arith) (omega arith))
      (λ j k. cells j k (ℕ_discrete i j))
      (λ j g k. void j (omega arith) k (omega arith))
