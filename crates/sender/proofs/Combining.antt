-- The repair symbols of a packet: each combined by slot, and one after the other in the output; then the packet, its draws, and what the call promises.
-- one repair symbol: symbol_made
-- one after the other: joined-more; carried_none, carried_more, carried_all (record Carried); get_or-map_in, length_symbols, get_or-symbols
-- the packet: symbols-of, packed_refused, packed_done; sized_map, sized, counted, length-packet, draws_packet
-- the call: repairs, repair-made, refused-made
use Rattle.std.specs.Prelude.{◌≡◌, ◌≤◌, ◌+◌, ◌<◌, ◌%◌, ◌∷◌, ◌*◌, ◌++◌, ◌^◌, ◌||◌, Result, Ok, Err}
use Rattle.words.specs.Words.{arith, ℕ, List, length, refl, ◌∙◌, sym, ap, [], Some, suc, true, zero, get_or, false, Bool}
use Rattle.words.specs.Words.{take, ltb, some-injective, map, add-one, length-append, not-suc-le-zero, le_of_suc-le-suc, zero-mul, append_assoc}
use Rattle.words.specs.Words.{replicate, append-nil, not, take_all, mul-le-mul, take-append-drop, one-mul}
use native.Mathlib.Nat.{add-mul}
use lib.ListN.{length-map}
use lib.Seq.{take-suc}
use Rattle.memory.specs.Part.{part, splice}
use Rattle.memory.proofs.Parts.{splice_next, take_new, cons-eq}
use Rattle.wire.specs.declared.Scheme.{Scheme}
use Rattle.wire.specs.declared.Refusal.{Refusal}
use Rattle.wire.specs.Numbers.{within}
use Rattle.wire.specs.Inner.{esi_before}
use Rattle.wire.specs.Packets.{Sized, joined, chunks, repair_header, repair_packet}
use Rattle.wire.proofs.Adui.{front_next, length-chunks, get_or-chunks}
use Rattle.wire.proofs.Reading.{repair-length}
use Rattle.rows.specs.Combination.{coefficient, combination}
use Rattle.rows.specs.Sums.{combined, row_at}
use Rattle.rows.proofs.Dot.{dot_same}
use Rattle.rows.proofs.Combinations.{long-rows, length-combination, combined_sums}
use Rattle.coefficients.specs.Coefficients.{keys, lists_of, all_ok, draws_of, packet_draws}
use Rattle.coefficients.proofs.Lists.{length-keys, packet_draws_most, written_draws}
use Rattle.coefficients.proofs.Fills.{lists_cut}
use Rattle.sender.specs.declared.Header.{Header}
use Rattle.sender.specs.State.{header_size, header_in}
use Rattle.sender.specs.Calls.{done, repairing}
use Rattle.sender.specs.Promises.{answer_of, Repairs, Draws, RepairMade}
use Rattle.sender.specs.Repair.{repair_symbol, written_key}
use Rattle.sender.specs.Inner.{first_slot, window_in, Laid, symbols_from, packet_from, PacketOr10, Packed}
use Rattle.sender.proofs.Heads.{Opened, opened}
use Rattle.sender.proofs.Promising.{promise_refused, promise_done}
use Rattle.sender.proofs.Repairing.{in_range_lem, length-stored, get_or-stored, packet-of, written_small, repairing_draws, repairing_done}
use Rattle.wire.specs.declared.Refusal.TheVariants as refusals

-- ---- one repair symbol

-- coefficients laid by slot combine the slots to what the list combines the window to
pub symbol_made : (h : Header) (m list cs : List ℕ) → Opened m h → length list ≡ h.held → length cs ≡ h.setting.width → Laid (first_slot h) list cs
    → combined (coefficient cs) (row_at m header_size h.setting.size h.setting.size) (length cs) (replicate h.setting.size 0)
    ≡ combination h.setting.size list (window_in h m)
unfolding row_at
symbol_made h m list cs o ll lc laid =
    let e = h.setting.size in
    let row = row_at m header_size e e in
    let lw : length (window_in h m) ≡ length list = length-stored e h.setting.width m (first_slot h) h.held ∙ sym ll in
    let room : header_size + length cs * e ≤ length m = rw lc o.room in
    let slot : (i j : ℕ) → j < length list → get_or (row ((first_slot h + j) % length cs)) i 0 ≡ get_or (get_or (window_in h m) j []) i 0 =
    λ i j g. rw lc (ap (λ (x : List ℕ). get_or x i 0) (sym (get_or-stored e h.setting.width m (first_slot h) h.held j (rw ll at g)))) in
    combined_sums e row (coefficient cs) (length cs) (long-rows m header_size e e (length cs) (omega arith) room) list (window_in h m)
    (λ i k.
    laid.sum (λ k. get_or (row k) i 0)
    ∙ rw lw
    (dot_same (coefficient list) (λ j. get_or (row ((first_slot h + j) % length cs)) i 0) (coefficient list) (λ j. get_or (get_or (window_in h m) j []) i 0)
    (length list) (λ j g. refl) (slot i)))

-- ---- symbols one after the other in the output

joined-more : (xs : List (List ℕ)) (x : List ℕ) → joined (xs ++ (x ∷ [])) ≡ joined xs ++ x
joined-more [] x = append-nil x
joined-more (y ∷ xs) x = rw (joined-more xs x, append_assoc)

-- the first i symbols stand in the output
pub record Carried (xs : List (List ℕ)) (size : ℕ) (out : List ℕ) (i : ℕ) (out' : List ℕ) : Type 0 where
  pub size_of : length (joined (take i xs)) ≡ i * size
  pub bytes : out' ≡ splice 8 (joined (take i xs)) out

module _ (xs : List (List ℕ)) (size : ℕ) (out : List ℕ) where
  pub carried_none : Carried xs size out 0 out
  unfolding splice
  carried_none = record { size_of = sym (zero-mul size); bytes = sym (take-append-drop 8 out) }

  pub carried_more : (i : ℕ) (out' : List ℕ) → i < length xs → length (get_or xs i []) ≡ size → 8 ≤ length out → Carried xs size out i out'
      → Carried xs size out (i + 1) (splice (8 + i * size) (get_or xs i []) out')
  carried_more i out' h lx room c =
      let l = c.size_of in
      let e : joined (take (i + 1) xs) ≡ joined (take i xs) ++ get_or xs i [] = rw (add-one, take-suc xs i [] h, joined-more) in
      record {
        size_of = rw e (length-append (joined (take i xs)) (get_or xs i []) ∙ omega (arith, l, lx, add-mul i 1 size, one-mul size));
        bytes = rw (c.bytes, ← l, e) (splice_next 8 (joined (take i xs)) (get_or xs i []) out room);
      }

  pub carried_all : (i : ℕ) (out' : List ℕ) → length xs ≤ i → Carried xs size out i out' → out' ≡ splice 8 (joined xs) out
  carried_all i out' h c = c.bytes ∙ ap (λ (ys : List (List ℕ)). splice 8 (joined ys) out) (take_all i xs h)

get_or-map_in : (f : List ℕ → List ℕ) (l : List (List ℕ)) (i : ℕ) → i < length l → get_or (map f l) i [] ≡ f (get_or l i [])
get_or-map_in f [] i h = absurd (not-suc-le-zero h)
get_or-map_in f (x ∷ l) zero h = refl
get_or-map_in f (x ∷ l) (suc i) h = get_or-map_in f l i (le_of_suc-le-suc h)

module _ (h : Header) (m : List ℕ) (count : ℕ) (lists : List ℕ) where
  pub length_symbols : length (symbols_from h m count lists) ≡ count
  unfolding symbols_from
  length_symbols = length-map (chunks count h.held lists) _ ∙ length-chunks count h.held lists

  pub get_or-symbols : (i : ℕ) → i < count
      → get_or (symbols_from h m count lists) i [] ≡ combination h.setting.size (part (i * h.held) h.held lists) (window_in h m)
  unfolding symbols_from
  get_or-symbols i k =
      let symbol : List ℕ → List ℕ = λ cs. combination h.setting.size cs (window_in h m) in
      get_or-map_in symbol (chunks count h.held lists) i (rw (length-chunks count h.held lists) k) ∙ ap symbol (get_or-chunks count h.held lists i k)

-- ---- the packet

pub symbols-of : (scheme : Scheme) (dt size : ℕ) (window : List (List ℕ)) (n : ℕ) → length window ≡ n → (ks : List ℕ)
    → map (λ (cs : List ℕ). combination size cs window) (lists_of scheme dt n ks) ≡ map (repair_symbol scheme dt size window) ks
unfolding repair_symbol
symbols-of scheme dt size window n e [] = refl
symbols-of scheme dt size window n e (k ∷ ks) = cons-eq (rw e) (symbols-of scheme dt size window n e ks)

-- ---- what a call comes to after the lists were drawn

module _ (h : Header) (key dt count : ℕ) (m out : List ℕ) (written : ℕ) (ew : written ≡ written_key h.setting.scheme key dt) where
  -- a list was refused
  pub packed_refused : all_ok h.setting.scheme dt h.held (keys written count) ≡ false → Packed h key dt count m out (Err refusals.Draws) out
  packed_refused e = rw (← ew, e) (refl, refl)

  -- the header was written, and then the symbols
  pub packed_done : all_ok h.setting.scheme dt h.held (keys written count) ≡ true → (first : ℕ) (rest lists out₁ out₂ : List ℕ)
      → first ≡ esi_before h.esi.0 h.held
      → lists ≡ joined (lists_of h.setting.scheme dt h.held (keys written count)) ++ rest
      → out₁ ≡ splice 0 (repair_header written dt h.held first) out
      → out₂ ≡ splice 8 (joined (symbols_from h m count lists)) out₁
      → (draws : ℕ) → draws ≡ draws_of h.setting.scheme dt h.held (keys written count)
      → Packed h key dt count m out (Ok (8 + count * h.setting.size, draws)) out₂
  unfolding symbols_from packet_from repair_packet repair_header
  packed_done ok first rest lists out₁ out₂ ef el e₁ e₂ draws ed =
      let scheme = h.setting.scheme in
      let ls = lists_of scheme dt h.held (keys written count) in
      let c : chunks count h.held lists ≡ ls = rw el (lists_cut scheme dt h.held written count rest ok) in
      let s = symbols-of scheme dt h.setting.size (window_in h m) h.held (length-stored _ _ m _ h.held) (keys written count) in
      let header = repair_header written dt h.held (esi_before h.esi.0 h.held) in
      rw (← ew, ok) (ap (λ d. Ok (8 + count * h.setting.size, d)) ed, rw (e₂, e₁, c, s, ef) (front_next 8 header _ out refl))

sized_map : (f : ℕ → List ℕ) (size : ℕ) → ((key : ℕ) → length (f key) ≡ size) → (ks : List ℕ) → Sized size (map f ks)
sized_map f size e [] = tt
sized_map f size e (k ∷ ks) = (e k, sized_map f size e ks)

-- the packet's length, and its draws
module _ (h : Header) (m : List ℕ) (key dt count : ℕ) (z : 0 < h.setting.size) where
  abbrev symbols : List (List ℕ)
  symbols = map (repair_symbol h.setting.scheme dt h.setting.size (window_in h m)) (keys key count)

  abbrev first : ℕ
  first = esi_before h.esi.0 h.held

  sized : Sized h.setting.size symbols
  unfolding repair_symbol
  sized = sized_map _ h.setting.size (λ k. length-combination h.setting.size _ (window_in h m)) (keys key count)

  counted : length symbols ≡ count
  counted = length-map (keys key count) _ ∙ length-keys key count

  length-packet : length (packet_from h m key dt count) ≡ 8 + count * h.setting.size
  unfolding packet_from
  length-packet = repair-length key dt h.held first h.setting.size symbols sized z ∙ ap (λ (n : ℕ). 8 + n * h.setting.size) counted

  draws_packet : key < 2 ^ 16 → dt < 16 → h.held < 4096
      → packet_draws h.setting.scheme h.setting.size (packet_from h m key dt count) ≡ draws_of h.setting.scheme dt h.held (keys key count)
  unfolding packet_from
  draws_packet k d n =
      written_draws h.setting.scheme key dt h.held first h.setting.size symbols sized z k d n
      ∙ ap (λ (n : ℕ). draws_of h.setting.scheme dt h.held (keys key n)) counted

-- the promise of a call that passed the checks before the draws
module _ (h : Header) (key dt count : ℕ) (m out : List ℕ) (o : header_in m ≡ Some h) (g : (ltb 15 dt || not (within 1 16 count)) ≡ false) where
  abbrev written : ℕ
  written = written_key h.setting.scheme key dt

  ranged : (dt ≤ 15) × (1 ≤ count) × (count ≤ 16)
  ranged = in_range_lem dt count g

  pub repairs : (h.held ≡ 0 → ⊥) → 8 + count * h.setting.size ≤ length out → (r : Result (ℕ × ℕ) Refusal) (out' : List ℕ) → Packed h key dt count m out r out'
      → Repairs key dt count m out (answer_of r) out'
  repairs n room r out' p = go (all_ok h.setting.scheme dt h.held (keys written count)) refl p
    where
      go : (b : Bool) → all_ok h.setting.scheme dt h.held (keys written count) ≡ b → PacketOr10 b h written dt count m out r out'
          → Repairs key dt count m out (answer_of r) out'
      go false e q =
          rw (q.0, q.1)
          (promise_refused (λ s. repairing s key dt count (length out)) m out h o refusals.Draws (λ z. omega arith)
          (λ s k i. repairing_draws key dt count (length out) s g h i n room e))
      go true e q =
          rw q.0
          (promise_done (λ s. repairing s key dt count (length out)) m out h o (packet_from h m written dt count) (8 + count * h.setting.size) m out'
          (length-packet h m written dt count (omega (arith, (opened m h o).valid.size_least))) room q.1 refl refl
          (λ s k i. (
            s,
            repairing_done key dt count (length out) s g h i n room e ∙ ap (λ (x : List ℕ). done x s) (sym (rw i (packet-of m s k _ dt count))),
            k,
            ap (λ (x : Header). x.setting) i,
          )))

  -- and the draws
  pub repair-made : key < 2 ^ 16 → (h.held ≡ 0 → ⊥) → 8 + count * h.setting.size ≤ length out
      → (r : Result (ℕ × ℕ) Refusal) (out' : List ℕ) → Packed h key dt count m out r out' → RepairMade key dt count m out r out'
  repair-made k n room r out' p =
      record { repairs = repairs n room r out' p; draws = go (all_ok h.setting.scheme dt h.held (keys written count)) p }
    where
      says : Opened m h
      says = opened m h o

      held : h.held ≤ 255
      held = omega (arith, says.held, says.valid.width_most)

      few : draws_of h.setting.scheme dt h.held (keys written count) ≤ 69360
      few = packet_draws_most h.setting.scheme dt h.held held (keys written count) (rw (length-keys written count) ranged.2)

      short : 8 + count * h.setting.size ≤ 24008
      short = omega (arith, mul-le-mul ranged.2 says.valid.size_most)

      go : (b : Bool) → PacketOr10 b h written dt count m out r out' → Draws key dt count m out' r
      go false q = rw q.0 tt
      go true q =
          let z : 0 < h.setting.size = omega (arith, says.valid.size_least) in
          let l = length-packet h m written dt count z in
          let t = take_new (8 + count * h.setting.size) (packet_from h m written dt count) out l in
          let same : (h' : Header) → header_in m ≡ Some h' → h ≡ h' = λ h' e. some-injective h h' (sym o ∙ e) in
          rw q.0 (record {
            lists = λ h' e. rw (← same h' e);
            packet = λ h' e.
                rw (← same h' e, q.1, t)
                (sym (draws_packet h m written dt count z (written_small h.setting.scheme key dt k) (omega (arith, ranged.0)) (omega (arith, held))));
            small = (short, few);
          })

-- a refusal before the draws
pub refused-made : (key dt count : ℕ) (m out : List ℕ) (n : Refusal) → Repairs key dt count m out (Err n) out
    → RepairMade key dt count m out (Err n) out
refused-made key dt count m out n p = record { repairs = p; draws = tt }
