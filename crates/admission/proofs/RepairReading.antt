-- Reading a repair packet: its checks in the history's order, and one law for each way that it ends.
-- Laws:
--   its fields: sized
--   the reading: repair_form_lem, repair_range, repair_out, repair_draws, repair_passed
use Rattle.std.specs.Prelude.{◌≡◌, ◌≤◌, ◌+◌, ◌%◌, ◌*◌, ◌++◌, ◌^◌, Ok, Err}
use Rattle.words.specs.Words.{arith, ℕ, length, List, refl, ◌∙◌, sym, ap, Some, true, false, Bool, drop, eqb-true, le-leb}
use Rattle.words.specs.Words.{leb, mul-le-mul}
use Rattle.wire.specs.declared.Refusal.{Refusal}
use Rattle.wire.specs.declared.RepairFields.{RepairFields}
use Rattle.wire.specs.Numbers.{within}
use Rattle.wire.specs.Packets.{joined, chunks, repair_count, repair_form, repair_key, density_threshold, protected_count, first_esi, repair_symbols}
use Rattle.wire.specs.Flows.{flows_in}
use Rattle.wire.specs.Headers.{repair_fields, repair_header_of}
use Rattle.wire.proofs.Adui.{length-chunks}
use Rattle.wire.proofs.Settings.{both, within_bounds}
use Rattle.coefficients.specs.Coefficients.{keys, lists_of, all_ok, draws_of, packet_draws}
use Rattle.coefficients.specs.Promises.{filled_of}
use Rattle.coefficients.proofs.Lists.{length-keys, packet_draws_most}
use Rattle.coefficients.proofs.Fills.{lists_cut}
use Rattle.holding.specs.declared.Header.{Header}
use Rattle.holding.specs.Header.{header_in}
use Rattle.history.specs.History.{Located, repair, Call, repair-call, Reading, located, check, side_of, from_side, working_size, read_repair, reading}
use Rattle.admission.specs.declared.packet.Location.{Location}
use Rattle.admission.specs.Joining.{header_for}
use Rattle.admission.specs.Steps.{location_found}
use Rattle.admission.specs.Reading.{Failed, coefficient_lists, RepairPassed}
use Rattle.holding.proofs.Headers.{headed}
use Rattle.admission.proofs.Locating.{cond_ok, cond_err, distance}
use Rattle.admission.proofs.Reading.{failed, failed_stopped, failed_out, reading_at, passed}
use Rattle.wire.specs.declared.Refusal.TheVariants as refusals

-- ---- What reading the packet found

module _ (E : ℕ) (p : List ℕ) (f : RepairFields) (read : Ok f ≡ repair_header_of E p) where
  formed : repair_form E p ≡ true
  formed = (cond_ok (repair_form E p) _ _ read).0

  pub fields_are : f ≡ repair_fields E p
  fields_are = (cond_ok (repair_form E p) _ _ read).1

  -- It has at most 16 symbols, and all lie in it.
  pub sized : (f.count ≤ 16) × (length p ≡ 8 + f.count * E)
  unfolding repair_form
  sized =
      let (a, b) = both (within 1 16 (repair_count E p)) _ formed in
      rw fields_are ((within_bounds 1 16 (repair_count E p) a).1, eqb-true (length p) (8 + repair_count E p * E) b)

-- The lists were refused.
not-filled : (t : Bool) (draws : ℕ) (x : Refusal) → Err x ≡ filled_of t draws → (t ≡ false) × (x ≡ refusals.Draws)
not-filled true draws x q = (cc, cc)
not-filled false draws x q = (refl, cc)

count_is : (E : ℕ) (p : List ℕ) → length (repair_symbols E p) ≡ repair_count E p
unfolding repair_symbols
count_is E p = length-chunks (repair_count E p) E (drop 8 p)

symbols_are : (E : ℕ) (p : List ℕ) → repair_symbols E p ≡ chunks (repair_count E p) E (drop 8 p)
unfolding repair_symbols
symbols_are E p = refl

-- ---- The reading, one law for each way that it ends

module _ (p m : List ℕ) (room : ℕ) (h : Header) (has : header_in m ≡ Some h) (lent : working_size h.setting ≤ room) where
  open h.setting use {scheme, size as E, width}

  abbrev c : Call
  c = repair-call p

  abbrev n : ℕ
  n = protected_count p

  abbrev ks : List ℕ
  ks = keys (repair_key p) (length (repair_symbols E p))

  -- The packet with its first position, and what the history makes of it at the distance d from the base b.
  abbrev packet_at : ℕ → Located
  packet_at x = repair x n (coefficient_lists h.setting p) (repair_symbols E p)

  abbrev next : (b d : ℕ) → Reading
  next b d = check (all_ok scheme (density_threshold p) n ks) 10 (located (packet_at (b + d)))

  enough : leb (working_size h.setting) room ≡ true
  enough = le-leb (working_size h.setting) room lent

  pub repair_form_lem : (x : Refusal) → Err x ≡ repair_header_of E p → Failed c m room refusals.Form
  unfolding reading check read_repair
  repair_form_lem x q =
      let (a, k) = cond_err (repair_form E p) _ _ q in
      failed c m room h has refusals.Form (λ z. omega arith) (λ b. rw (enough, a))

  module _ (f : RepairFields) (read : Ok f ≡ repair_header_of E p) where
    is : f ≡ repair_fields E p
    is = fields_are E p f read

    pub repair_range : within 1 width f.nss ≡ false → Failed c m room refusals.Range
    unfolding reading check read_repair
    repair_range e = failed c m room h has refusals.Range (λ z. omega arith) (λ b. rw (enough, formed E p f read, rw is at e))

    module _ (fits : within 1 width f.nss ≡ true) where
      says : (b : ℕ) → reading h.setting (flows_in m) b room c ≡ from_side f.nss (side_of b (first_esi p)) (next b)
      unfolding reading check read_repair
      says b = rw is (rw (enough, formed E p f read, rw is at fits))

      -- The header for the packet.
      abbrev g : Header
      g = header_for h (first_esi p)

      pub repair_out : (x : Refusal) → Err x ≡ location_found g (first_esi p) f.nss → Failed c m room x
      repair_out x q = failed_out c m room h has f.nss next says x q

      -- No more positions than the widest window has, and lists that fit the room for them.
      pub few : f.nss ≤ 255
      few = omega (arith, (within_bounds 1 width f.nss fits).1, (headed m h has).valid.width_most)

      pub lists_fit : f.count * f.nss ≤ 4080
      lists_fit = mul-le-mul (sized E p f read).0 few

      module _ (at : Location) (found : Ok at ≡ location_found g (first_esi p) f.nss) where
        abbrev d : ℕ
        d = distance g (first_esi p) f.nss

        drawn_next : (b : ℕ) → b % 2 ^ 32 ≡ g.esi.0 → reading h.setting (flows_in m) b room c ≡ next b d
        drawn_next = reading_at c m room h has f.nss next says at found

        ok_of : (t : Bool) → all_ok scheme f.dt f.nss (keys f.key.0 f.count) ≡ t → all_ok scheme (density_threshold p) n ks ≡ t
        ok_of t e = let z = rw is at e in rw (count_is E p) z

        pub repair_draws : (x : Refusal) (draws : ℕ) → Err x ≡ filled_of (all_ok scheme f.dt f.nss (keys f.key.0 f.count)) draws → Failed c m room x
        unfolding check
        repair_draws x draws q =
            let (e, k) = not-filled (all_ok scheme f.dt f.nss (keys f.key.0 f.count)) draws x q in
            rw k (failed_stopped c m room h has refusals.Draws (λ z. omega arith) (λ b q. drawn_next b q ∙ rw (ok_of false e)))

        module _ (drawn : all_ok scheme f.dt f.nss (keys f.key.0 f.count) ≡ true) (lists rest : List ℕ)
            (bytes : lists ≡ joined (lists_of scheme f.dt f.nss (keys f.key.0 f.count)) ++ rest) where
          cut : chunks f.count f.nss lists ≡ coefficient_lists h.setting p
          cut =
              let z : lists ≡ joined (lists_of scheme (density_threshold p) (protected_count p) (keys (repair_key p) (repair_count E p))) ++ rest =
              rw is at bytes in
              rw (is, z, count_is E p) (lists_cut scheme (density_threshold p) (protected_count p) (repair_key p) (repair_count E p) rest (rw is at drawn))

          located_next : (b : ℕ) → b % 2 ^ 32 ≡ g.esi.0 → reading h.setting (flows_in m) b room c ≡ located (packet_at (b + d))
          unfolding check
          located_next b q = drawn_next b q ∙ rw (ok_of true drawn)

          -- The draws of its lists are those that it takes, and few.
          draws_are : draws_of scheme f.dt f.nss (keys f.key.0 f.count) ≡ packet_draws scheme E p
          unfolding packet_draws
          draws_are = rw (is, count_is E p)

          pub repair_passed : (based : Header) → based ≡ g → 4080 ≤ length lists → (draws : ℕ)
              → draws ≡ draws_of scheme f.dt f.nss (keys f.key.0 f.count)
              → RepairPassed p m room lists (record { header = based; location = at; named = f.nss; count = f.count; draws = draws })
          repair_passed based based-is room-is draws took = record {
            header = h;
            distance = d;
            passes = passed c m room h has lent _ based-is found (within_bounds 1 width f.nss fits).0 (within_bounds 1 width f.nss fits).1
                packet_at located_next;
            named = ap (λ y. y.nss) is;
            drawn = sym cut;
            symbols = symbols_are E p ∙ ap (λ (k : ℕ). chunks k E (drop 8 p)) (sym (ap (λ y. y.count) is));
            within = omega (arith, lists_fit, room-is);
            size = (sized E p f read).1;
            few = (sized E p f read).0;
            draws = took ∙ draws_are;
            small =
                let l : length (keys f.key.0 f.count) ≤ 16 = rw (length-keys f.key.0 f.count) (sized E p f read).0 in
                rw took (packet_draws_most scheme f.dt f.nss few (keys f.key.0 f.count) l);
          }
