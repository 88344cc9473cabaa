-- What the checks before 11 make of a call is the number of the first that fails, or the packet at its place.
-- Index
--   adu-length
--   form_of, flow_of, size_of, count_of, last_of: the tests of form, flow and number of symbols, the symbols named, and what comes after the place
--   in_order: the checks, one after the other
--   lent, well_formed, of-announced, few, near: what is left to check once some have passed
--   checked, reading_checked
use Rattle.std.specs.Prelude.{◌≡◌, ◌≤◌, ◌+◌, ◌<◌, ◌-◌, ◌*◌, ◌^◌, ◌&&◌}
use Rattle.words.specs.Words.{arith, ℕ, List, length, refl, ◌∙◌, true, Bool, leb, le-leb, lt-ltb, le-ltb}
use Rattle.words.specs.Words.{leb-true, eqb-true, eq-eqb, length-take, mul-le-mul_right, suc-mul, dec_lt}
use native.Mathlib.Nat.{mul-div_cancel}
use Rattle.wire.specs.declared.Setting.{Setting}
use Rattle.wire.specs.Numbers.{within}
use Rattle.wire.specs.Packets.{symbol_count, source_form, source_adu, repair_form, repair_count, density_threshold, protected_count}
use Rattle.wire.specs.Flows.{announced}
use Rattle.wire.proofs.Flows.{announced_exactly}
use Rattle.wire.proofs.Settings.{both, within_true, within_bounds}
use Rattle.wire.proofs.Adui.{room, least}
use Rattle.coefficients.specs.Coefficients.{all_ok}
use Rattle.history.specs.History.{side_of, Call, source-call, repair-call, esi_of, Reading, fails, located, check, from_side, read_source, read_repair}
use Rattle.history.specs.History.{reading, working_size, halfway, farthest}
use Rattle.history.specs.Checking.{distance, Lent, Formed, FlowAnnounced, Few, four_or_six, named_by, keys_in, Drawn, says_at, Checked, ReadingChecked}
use Rattle.history.proofs.Readings.{check_stops, check_goes}

-- An ADU fits so many symbols exactly where it takes no more.
fits_few : (E w L : ℕ) → 0 < E → 3 + L ≤ w * E → symbol_count E L ≤ w
fits_few E w L z h = go (dec_lt w (symbol_count E L))
  where
    go : Dec (w < symbol_count E L) → symbol_count E L ≤ w
    go (yes g) = absurd (omega (arith, least E L, mul-le-mul_right E g, suc-mul w E))
    go (no g) = omega (arith, g)

few_fits : (E w L : ℕ) → 0 < E → symbol_count E L ≤ w → 3 + L ≤ w * E
few_fits E w L z h = omega (arith, room E L z, mul-le-mul_right E h)

pub adu-length : (p : List ℕ) → length (source_adu p) ≡ length p - 4
unfolding source_adu
adu-length p = length-take (length p - 4) p ∙ omega arith

module _ (s : Setting) (z : 0 < s.size) where
  open s use {scheme, size as E, width}

  -- Form, flow and number of symbols, as tests.
  form_of : Call → Bool
  form_of (source-call flow p) = source_form p
  form_of (repair-call p) = repair_form E p

  flow_of : (flows : List ℕ) → Call → Bool
  flow_of flows (source-call flow p) = announced flows flow
  flow_of flows (repair-call p) = true

  size_of : Call → Bool
  size_of (source-call flow p) = leb (length (source_adu p)) 65535 && leb (symbol_count E (length (source_adu p))) width
  size_of (repair-call p) = within 1 width (protected_count p)

  count_is : (p : List ℕ) (k : ℕ) → length p ≡ 8 + k * E → repair_count E p ≡ k
  unfolding repair_count
  count_is p k e = let h : length p - 8 ≡ k * E = omega (arith, e) in rw h (mul-div_cancel k z)

  form_true : (c : Call) → Formed s c → form_of c ≡ true
  unfolding form_of source_form repair_form
  form_true (source-call flow p) h = le-leb 4 (length p) h
  form_true (repair-call p) (k, l, h, e) = rw (count_is p k e, within_true 1 16 k l h) (eq-eqb (length p) (8 + k * E) e)

  form_is : (c : Call) → form_of c ≡ true → Formed s c
  unfolding form_of source_form repair_form
  form_is (source-call flow p) h = leb-true 4 (length p) h
  form_is (repair-call p) h =
      let (a, b) = both (within 1 16 (repair_count E p)) _ h in
      let w = within_bounds 1 16 (repair_count E p) a in
      (repair_count E p, w.0, w.1, eqb-true (length p) (8 + repair_count E p * E) b)

  flow_true : (flows : List ℕ) (c : Call) → FlowAnnounced s flows c → flow_of flows c ≡ true
  unfolding flow_of
  flow_true flows (source-call flow p) h = (announced_exactly flows flow).1 h
  flow_true flows (repair-call p) h = refl

  flow_is : (flows : List ℕ) (c : Call) → flow_of flows c ≡ true → FlowAnnounced s flows c
  unfolding flow_of
  flow_is flows (source-call flow p) h = (announced_exactly flows flow).0 h
  flow_is flows (repair-call p) h = tt

  few_true : (c : Call) → Few s c → size_of c ≡ true
  unfolding size_of
  few_true (source-call flow p) (h, k) =
      rw (adu-length p, le-leb (length p - 4) 65535 (omega (arith, h)))
      (le-leb (symbol_count E (length p - 4)) width (fits_few E width (length p - 4) z k))
  few_true (repair-call p) (h, k) = within_true 1 width (protected_count p) h k

  few_is : (c : Call) → size_of c ≡ true → Few s c
  unfolding size_of
  few_is (source-call flow p) e =
      let (a, b) = both (leb (length p - 4) 65535) (leb (symbol_count E (length p - 4)) width) (rw (adu-length p) at e) in
      (omega (arith, leb-true (length p - 4) 65535 a), few_fits E width (length p - 4) z (leb-true (symbol_count E (length p - 4)) width b))
  few_is (repair-call p) e = within_bounds 1 width (protected_count p) e

  -- The symbols named, as the reading counts them.
  count_of : Call → ℕ
  count_of (source-call flow p) = symbol_count E (length (source_adu p))
  count_of (repair-call p) = protected_count p

  count_named : (c : Call) → count_of c ≡ named_by s c
  unfolding count_of symbol_count
  count_named (source-call flow p) = rw (adu-length p)
  count_named (repair-call p) = refl

  module _ (flows : List ℕ) (b room : ℕ) where
    -- What comes after the place.
    last_of : Call → (d : ℕ) → Reading
    last_of (source-call flow p) d = located (says_at s (b + d) (source-call flow p))
    last_of (repair-call p) d =
        check (all_ok scheme (density_threshold p) (protected_count p) (keys_in s p)) 10 (located (says_at s (b + d) (repair-call p)))

    -- The checks, one after the other.
    in_order : (c : Call)
        → reading s flows b room c
        ≡ check (leb (working_size s) room) 2
        (check (form_of c) 5 (check (flow_of flows c) 16 (check (size_of c) (four_or_six s c) (from_side (count_of c) (side_of b (esi_of c)) (last_of c)))))
    unfolding check reading read_source read_repair form_of flow_of size_of count_of last_of source_adu
    in_order (source-call flow p) = refl
    in_order (repair-call p) = refl

    module _ (c : Call) where
      abbrev d : ℕ
      d = distance b c

      abbrev n : ℕ
      n = named_by s c

      abbrev placed : Reading
      placed = from_side (count_of c) (side_of b (esi_of c)) (last_of c)

      abbrev sized : Reading
      sized = check (size_of c) (four_or_six s c) placed

      abbrev of_flow : Reading
      of_flow = check (flow_of flows c) 16 sized

      abbrev formed : Reading
      formed = check (form_of c) 5 of_flow

      side_behind : 2 ^ 31 ≤ d → placed ≡ fails 8
      unfolding from_side side_of halfway
      side_behind h = rw (le-ltb d (2 ^ 31) h)

      side_ahead : d < 2 ^ 31 → placed ≡ check (leb (d + n) 65536) 9 (last_of c d)
      unfolding from_side side_of halfway farthest
      side_ahead h = rw (lt-ltb d (2 ^ 31) h, count_named c)

      lent : Lent s room → reading s flows b room c ≡ formed
      lent h = in_order c ∙ check_goes (leb (working_size s) room) 2 formed (le-leb (working_size s) room (omega (arith, h)))

      well_formed : Lent s room → Formed s c → reading s flows b room c ≡ of_flow
      well_formed h f = lent h ∙ check_goes (form_of c) 5 of_flow (form_true c f)

      of-announced : Lent s room → Formed s c → FlowAnnounced s flows c → reading s flows b room c ≡ sized
      of-announced h f a = well_formed h f ∙ check_goes (flow_of flows c) 16 sized (flow_true flows c a)

      few : Lent s room → Formed s c → FlowAnnounced s flows c → Few s c → reading s flows b room c ≡ placed
      few h f a k = of-announced h f a ∙ check_goes (size_of c) (four_or_six s c) placed (few_true c k)

      near : Lent s room → Formed s c → FlowAnnounced s flows c → Few s c → d < 2 ^ 31 → d + n ≤ 65536 → reading s flows b room c ≡ last_of c d
      near h f a k l g = few h f a k ∙ side_ahead l ∙ check_goes (leb (d + n) 65536) 9 (last_of c d) (le-leb (d + n) 65536 g)

    last_stops : (c : Call) (d : ℕ) → ¬ Drawn s c → last_of c d ≡ fails 10
    unfolding last_of
    last_stops (source-call flow p) d n = absurd (n tt)
    last_stops (repair-call p) d n = check_stops _ 10 _ n

    last_goes : (c : Call) (d : ℕ) → Drawn s c → last_of c d ≡ located (says_at s (b + d) c)
    unfolding last_of
    last_goes (source-call flow p) d k = refl
    last_goes (repair-call p) d k = check_goes _ 10 _ k

    pub checked : (c : Call) → Checked s flows b room c (reading s flows b room c)
    checked c = record {
      short = λ n. in_order c ∙ check_stops (leb (working_size s) room) 2 (formed c) (λ e. n (omega (arith, leb-true (working_size s) room e)));
      form = λ h n. lent c h ∙ check_stops (form_of c) 5 (of_flow c) (λ e. n (form_is c e));
      stray = λ h f n. well_formed c h f ∙ check_stops (flow_of flows c) 16 (sized c) (λ e. n (flow_is flows c e));
      many = λ h f a n. of-announced c h f a ∙ check_stops (size_of c) (four_or_six s c) (placed c) (λ e. n (few_is c e));
      behind = λ h f a k l. few c h f a k ∙ side_behind c l;
      far = λ h f a k l g. few c h f a k ∙ side_ahead c l
          ∙ check_stops (leb (d c + n c) 65536) 9 (last_of c (d c)) (λ e. omega (arith, g, leb-true (d c + n c) 65536 e));
      zeros = λ h f a k l g x. near c h f a k l g ∙ last_stops c (d c) x;
      passes = λ h f a k l g x. near c h f a k l g ∙ last_goes c (d c) x;
    }

pub reading_checked : ReadingChecked
reading_checked s v flows b room c = checked s (omega (arith, v.size_least)) flows b room c
