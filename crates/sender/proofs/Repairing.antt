-- Making repair: the window as the memory has it is the sender's, the lists of coefficients give the packet's symbols, and what each case of the call
-- comes to.
use Rattle.std.specs.Prelude.{◌≡◌, ◌≤◌, ◌+◌, ◌<◌, ◌-◌, ◌%◌, ◌*◌, ◌^◌, ◌||◌}
use Rattle.words.specs.Words.{arith, ℕ, List, length, refl, ◌∙◌, sym, ap, [], suc, true, zero, get_or, false, Bool, cond}
use Rattle.words.specs.Words.{ltb, eqb, add-zero, ne_eqb, lt-ltb, mod-eq_of_lt, not-suc-le-zero, mod-add-mod, eq-eqb, le_of_suc-le-suc, lit<, le-ltb, not}
use Rattle.words.specs.Words.{min, get_or-drop, add-mod_right, ext_get_or, ltb-false, not-false}
use native.Mathlib.Nat.{add-mod_left}
use Rattle.memory.specs.Part.{part}
use Rattle.wire.specs.declared.Scheme.{Scheme}
use Rattle.wire.specs.declared.Scheme.TheVariants.{Gf2, Gf256}
use Rattle.wire.specs.Numbers.{within}
use Rattle.wire.specs.Inner.{esi_before}
use Rattle.wire.proofs.Settings.{within_bounds}
use Rattle.coefficients.specs.Coefficients.{keys, all_ok}
use Rattle.sender.specs.declared.Header.{Header}
use Rattle.sender.specs.State.{Sender, window, window_start, header_size, header_of, Holds}
use Rattle.sender.specs.Repair.{written_key}
use Rattle.sender.specs.Calls.{refused, done, repair_of, repairing}
use Rattle.sender.specs.Inner.{first_slot, stored, window_in, packet_from}
use Rattle.sender.proofs.Heads.{opened}
use Rattle.sender.proofs.Ring.{below}
use Rattle.sender.proofs.Taking.{held_is}

-- ---- the window in the memory

pub length-stored : (size width : ℕ) (m : List ℕ) (first n : ℕ) → length (stored size width m first n) ≡ n
length-stored size width m first zero = refl
length-stored size width m first (suc n) = ap suc (length-stored size width m (first + 1) n)

pub get_or-stored : (size width : ℕ) (m : List ℕ) (first n i : ℕ) → i < n
    → get_or (stored size width m first n) i [] ≡ part (header_size + (first + i) % width * size) size m
get_or-stored size width m first zero i h = absurd (not-suc-le-zero h)
get_or-stored size width m first (suc n) zero h = rw (add-zero first)
get_or-stored size width m first (suc n) (suc i) h =
    let e : first + suc i ≡ first + 1 + i = omega arith in
    rw e (get_or-stored size width m (first + 1) n i (le_of_suc-le-suc h))

-- the slot of the window's i-th symbol
slot_of : (T w i : ℕ) → ((T % w + w - min T w) % w + i) % w ≡ (T - w + i) % w
slot_of T w i =
    mod-add-mod (T % w + w - min T w) w i
    ∙ below T w
    (λ l.
    let e : T % w + w - min T w + i ≡ w + i = omega (arith, mod-eq_of_lt l) in
    let f : T - w + i ≡ i = omega arith in
    rw (e, f) (add-mod_left w i))
    (λ g.
    let e : T % w + w - min T w + i ≡ T % w + i = omega arith in
    let f : T + i ≡ T - w + i + w = omega arith in
    rw (e, mod-add-mod, f) (add-mod_right (T - w + i) w))

-- the ESI of the window's first symbol
esi-of : (T w : ℕ) → w ≤ 255 → (T % 2 ^ 32 + 2 ^ 32 - min T w) % 2 ^ 32 ≡ (T - w) % 2 ^ 32
esi-of T w h = omega arith

module _ (m : List ℕ) (s : Sender) (h : Holds m s) where
  window-of : window_in (header_of s) m ≡ window s
  window-of = ext_get_or [] (window_in (header_of s) m) (window s) (length-stored _ _ m _ _) at_slot
    where
      at_slot : (i : ℕ) → i < length (window_in (header_of s) m) → get_or (window_in (header_of s) m) i [] ≡ get_or (window s) i []
      at_slot i k =
          let T = length s.symbols in
          let w = s.setting.width in
          let l : i < length (window s) = rw (length-stored s.setting.size w m (first_slot (header_of s)) (length (window s))) at k in
          let n : i < min T w = rw (held_is s) at l in
          get_or-stored s.setting.size w m (first_slot (header_of s)) (length (window s)) i l
          ∙ rw (held_is s, slot_of T w i, get_or-drop (T - w) s.symbols i []) (h.slots (T - w + i) (omega arith) (omega arith))

  pub packet-of : (key dt count : ℕ) → packet_from (header_of s) m key dt count ≡ repair_of s key dt count
  unfolding packet_from
  packet-of key dt count =
      let v = (opened m (header_of s) h.header).valid in
      let e : esi_before (length s.symbols % 2 ^ 32) (length (window s)) ≡ window_start s % 2 ^ 32 =
      rw (held_is s) (esi-of (length s.symbols) s.setting.width v.width_most) in
      rw (window-of, e)

-- ---- the key that is written

-- it has 16 bits too
zero_or : (b : Bool) (key : ℕ) → key < 2 ^ 16 → cond b 0 key < 2 ^ 16
zero_or true key h = lit< tt
zero_or false key h = h

pub written_small : (scheme : Scheme) (key dt : ℕ) → key < 2 ^ 16 → written_key scheme key dt < 2 ^ 16
written_small Gf2 key dt h = zero_or (eqb dt 15) key h
written_small Gf256 key dt h = h

-- ---- the outcome, by what the header says

-- DT and count passed their test
pub in_range_lem : (dt count : ℕ) → (ltb 15 dt || not (within 1 16 count)) ≡ false → (dt ≤ 15) × (1 ≤ count) × (count ≤ 16)
in_range_lem dt count e =
    let r = neither (ltb 15 dt) (not (within 1 16 count)) e in
    let w = within_bounds 1 16 count (not-false (within 1 16 count) r.1) in
    (ltb-false 15 dt r.0, w.0, w.1)
  where
    neither : (a b : Bool) → (a || b) ≡ false → (a ≡ false) × (b ≡ false)
    neither true b e = (e, cc)
    neither false b e = (refl, e)

module _ (key dt count room : ℕ) (s : Sender) where
  pub repairing_range : (ltb 15 dt || not (within 1 16 count)) ≡ true → repairing s key dt count room ≡ refused 6
  unfolding repairing
  repairing_range g = rw g

  module _ (g : (ltb 15 dt || not (within 1 16 count)) ≡ false) (h : Header) (q : h ≡ header_of s) where
    held : h.held ≡ length (window s)
    held = ap (λ (x : Header). x.held) q

    pub repairing_empty : h.held ≡ 0 → repairing s key dt count room ≡ refused 7
    unfolding repairing
    repairing_empty e = rw (g, eq-eqb (length (window s)) 0 (sym held ∙ e))

    module _ (n : h.held ≡ 0 → ⊥) where
      some_held : length (window s) ≡ 0 → ⊥
      some_held e = n (held ∙ e)

      pub repairing_short : room < 8 + count * h.setting.size → repairing s key dt count room ≡ refused 2
      unfolding repairing
      repairing_short l = rw (g, ne_eqb (length (window s)) 0 some_held, lt-ltb room (8 + count * s.setting.size) (rw q at l))

      module _ (l : 8 + count * h.setting.size ≤ room) where
        pub repairing_draws : all_ok h.setting.scheme dt h.held (keys (written_key h.setting.scheme key dt) count) ≡ false
            → repairing s key dt count room ≡ refused 10
        unfolding repairing
        repairing_draws d = rw (g, ne_eqb (length (window s)) 0 some_held, le-ltb room (8 + count * s.setting.size) (rw q at l), rw q at d)

        pub repairing_done : all_ok h.setting.scheme dt h.held (keys (written_key h.setting.scheme key dt) count) ≡ true
            → repairing s key dt count room ≡ done (repair_of s (written_key h.setting.scheme key dt) dt count) s
        unfolding repairing
        repairing_done d = rw (g, ne_eqb (length (window s)) 0 some_held, le-ltb room (8 + count * s.setting.size) (rw q at l), rw q at d) (rw q)
