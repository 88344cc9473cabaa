-- What the checks before 11 leave of a packet: where it lies, what it says, and that it fits the window.
-- Index
--   check_passed, check_stops, check_goes, source-whole, repair-whole
--   Places: a packet's place has passed
--   SourceRead: a source packet that has passed
--   source-read
--   RepairRead: a repair packet that has passed
--   repair-read, reading_passed
--   reading_fits: whatever passes the checks lies ahead of the base
--   joins_at: a packet that finds no base begins at its own first ESI
--   joins_near: neither 8 nor 9 can stop it
--   reading_passes: what a call's packet has passed after a history
use Rattle.std.specs.Prelude.{◌≡◌, ◌≤◌, ◌+◌, ◌<◌, ◌-◌, ◌%◌, ◌∷◌, ◌*◌, ◌++◌, ◌^◌, ◌&&◌}
use Rattle.words.specs.Words.{arith, ℕ, List, length, refl, ◌∙◌, sym, ap, [], Some, suc, true, zero, None, false}
use Rattle.words.specs.Words.{Bool, subst, Option, drop, ltb, leb, mod-lt, length-drop, leb-true, lit<, eqb-true, ltb-true, length-take, suc-mul}
use Rattle.words.specs.Words.{get_or-drop}
use lib.ListN.{length-map}
use Rattle.memory.specs.Part.{part}
use Rattle.memory.specs.Number.{number, bytes, Bytes}
use Rattle.memory.proofs.Parts.{length_part}
use Rattle.memory.proofs.Number.{number_lt, bytes-part}
use Rattle.wire.specs.declared.Scheme.{Scheme}
use Rattle.wire.specs.declared.Setting.{Setting}
use Rattle.wire.specs.Numbers.{within, distance_of}
use Rattle.wire.specs.Packets.{zeros, chunks, symbol_count, adui, source_symbols, source_form, source_adu, source_esi, repair_count, repair_form, repair_key}
use Rattle.wire.specs.Packets.{density_threshold, protected_count, first_esi, repair_symbols}
use Rattle.wire.specs.Settings.{Valid}
use Rattle.wire.proofs.Settings.{both, within_bounds}
use Rattle.wire.proofs.Adui.{length-adui, symbols_count}
use Rattle.coefficients.specs.Coefficients.{keys, lists_of}
use Rattle.coefficients.proofs.Lists.{length-keys, list_bytes}
use Rattle.history.specs.History.{Located, source, repair, first, side_of, Call, source-call, repair-call, base_for, Log, base_of, read_after, halfway}
use Rattle.history.specs.History.{farthest, OfBytes, esi_of, Reading, fails, located, check, from_side, read_source, read_repair, working_size, read_packet}
use Rattle.history.specs.History.{reading}
use Rattle.history.proofs.Cases.{IsLocated, packet_path, number_in}
use Rattle.history.proofs.Sides.{limits, side_taken}
use Rattle.history.proofs.Says.{Wholes, AllBytes}
use Rattle.history.proofs.Answers.{Fits}

pub check_passed : (t : Bool) (n : ℕ) (r : Reading) (q : Located) → check t n r ≡ located q → (t ≡ true) × (r ≡ located q)
unfolding check
check_passed true n r q e = (refl, e)
check_passed false n r q e = absurd (subst IsLocated (sym e) tt)

-- A check that fails, and one that passes.
pub check_stops : (t : Bool) (n : ℕ) (r : Reading) → ¬ (t ≡ true) → check t n r ≡ fails n
unfolding check
check_stops true n r e = absurd (e refl)
check_stops false n r e = refl

pub check_goes : (t : Bool) (n : ℕ) (r : Reading) → t ≡ true → check t n r ≡ r
unfolding check
check_goes t n r e = rw e

-- ---- Symbols of E bytes

bytes-append : (l k : List ℕ) → Bytes l → Bytes k → Bytes (l ++ k)
bytes-append [] k h g i = g i
bytes-append (x ∷ l) k h g zero = h 0
bytes-append (x ∷ l) k h g (suc i) = bytes-append l k (λ j. h (suc j)) g i

zeros-bytes : (n : ℕ) → Bytes (zeros n)
zeros-bytes zero i = lit< tt
zeros-bytes (suc n) zero = lit< tt
zeros-bytes (suc n) (suc i) = zeros-bytes n i

number-bytes : (n v : ℕ) → Bytes (bytes n v)
number-bytes zero v i = lit< tt
number-bytes (suc n) v zero = mod-lt _ (lit< tt)
number-bytes (suc n) v (suc i) = number-bytes n v i

drop-bytes : (n : ℕ) (m : List ℕ) → Bytes m → Bytes (drop n m)
drop-bytes n m h i = rw get_or-drop (h (n + i))

chunks-whole : (n E : ℕ) (m : List ℕ) → n * E ≤ length m → Bytes m → Wholes E (chunks n E m)
unfolding part
chunks-whole zero E m h b = tt
chunks-whole (suc n) E m h b = (
  record { sized = length-take E m ∙ omega (arith, suc-mul n E); small = bytes-part 0 E m b },
  chunks-whole n E (drop E m) (omega (arith, suc-mul n E, length-drop E m)) (drop-bytes E m b),
)

adui-bytes : (flow : ℕ) (adu : List ℕ) (E : ℕ) → flow < 256 → Bytes adu → Bytes (adui flow adu E)
unfolding adui
adui-bytes flow adu E f b zero = f
adui-bytes flow adu E f b (suc i) =
    let n : ℕ = symbol_count E (length adu) * E - (3 + length adu) in
    bytes-append (bytes 2 (length adu)) (adu ++ zeros n) (number-bytes 2 (length adu)) (bytes-append adu (zeros n) b (zeros-bytes n)) i

pub source-whole : (flow : ℕ) (adu : List ℕ) (E : ℕ) → 0 < E → flow < 256 → Bytes adu → Wholes E (source_symbols flow adu E)
unfolding source_symbols
source-whole flow adu E z f b =
    chunks-whole (symbol_count E (length adu)) E (adui flow adu E) (omega (arith, length-adui flow adu E z)) (adui-bytes flow adu E f b)

pub repair-whole : (E : ℕ) (p : List ℕ) → repair_form E p ≡ true → Bytes p → Wholes E (repair_symbols E p)
unfolding repair_symbols repair_form
repair-whole E p h b =
    let l : length p ≡ 8 + repair_count E p * E = eqb-true (length p) (8 + repair_count E p * E) (both (within 1 16 (repair_count E p)) _ h).1 in
    chunks-whole (repair_count E p) E (drop 8 p) (omega (arith, length-drop 8 p, l)) (drop-bytes 8 p b)

lists_bytes : (scheme : Scheme) (dt n : ℕ) (ks : List ℕ) → AllBytes (lists_of scheme dt n ks)
lists_bytes scheme dt n [] = tt
lists_bytes scheme dt n (k ∷ ks) = (list_bytes scheme k dt n, lists_bytes scheme dt n ks)

-- ---- Side

-- A packet's place has passed: it lies d ahead of the base, and not too far.
pub record Places (base e n : ℕ) (next : ℕ → Reading) (q : Located) : Type 0 where
  pub near : distance_of e (base % 2 ^ 32) < halfway
  pub here : next (distance_of e (base % 2 ^ 32)) ≡ located q

places : (base e n : ℕ) (next : ℕ → Reading) (q : Located) → from_side n (side_of base e) next ≡ located q → Places base e n next q
unfolding from_side side_of
places base e n next q h = go (ltb (distance_of e (base % 2 ^ 32)) halfway) refl
  where
    go : (t : Bool) → ltb (distance_of e (base % 2 ^ 32)) halfway ≡ t → Places base e n next q
    go false x = absurd (subst IsLocated (sym (rw x at h)) tt)
    go true x = record { near = ltb-true _ _ x; here = (check_passed (leb (distance_of e (base % 2 ^ 32) + n) farthest) 9 _ q (rw x at h)).1 }

-- ---- Packets

module _ (s : Setting) where
  open s use {scheme, size as E, width}

  -- A source packet that has passed.
  pub record SourceRead (base flow : ℕ) (p : List ℕ) (q : Located) : Type 0 where
    pub form : source_form p ≡ true
    pub fits : symbol_count E (length (source_adu p)) ≤ width
    pub near : distance_of (source_esi p) (base % 2 ^ 32) < halfway
    pub says : source (base + distance_of (source_esi p) (base % 2 ^ 32)) (source_symbols flow (source_adu p) E) ≡ q

  pub source-read : (flows : List ℕ) (base flow : ℕ) (p : List ℕ) (q : Located) → read_source s flows base flow p ≡ located q → SourceRead base flow p q
  unfolding read_source
  source-read flows base flow p q h =
      let (a, f) = check_passed _ 5 _ q h in
      let (_, g) = check_passed _ 16 _ q f in
      let (b, j) = check_passed _ 4 _ q g in
      let (c, d) = both (leb (length (source_adu p)) 65535) _ b in
      let l = places base (source_esi p) (symbol_count E (length (source_adu p))) _ q j in
      record { form = a; fits = leb-true _ _ d; near = l.near; says = packet_path l.here }

  -- A repair packet that has passed.
  pub record RepairRead (base : ℕ) (p : List ℕ) (q : Located) : Type 0 where
    pub form : repair_form E p ≡ true
    pub fits : protected_count p ≤ width
    pub near : distance_of (first_esi p) (base % 2 ^ 32) < halfway
    pub says :
        repair (base + distance_of (first_esi p) (base % 2 ^ 32)) (protected_count p)
        (lists_of scheme (density_threshold p) (protected_count p) (keys (repair_key p) (length (repair_symbols E p)))) (repair_symbols E p) ≡ q

  pub repair-read : (base : ℕ) (p : List ℕ) (q : Located) → read_repair s base p ≡ located q → RepairRead base p q
  unfolding read_repair
  repair-read base p q h =
      let (a, g) = check_passed _ 5 _ q h in
      let (b, j) = check_passed _ 6 _ q g in
      let l = places base (first_esi p) (protected_count p) _ q j in
      let (f, k) = check_passed _ 10 _ q l.here in
      record { form = a; fits = (within_bounds 1 width (protected_count p) b).1; near = l.near; says = packet_path k }

  pub reading_passed : (flows : List ℕ) (base room : ℕ) (c : Call) (q : Located) → reading s flows base room c ≡ located q
      → read_packet s flows base c ≡ located q
  unfolding reading
  reading_passed flows base room c q h = (check_passed (leb (working_size s) room) 2 _ q h).1

  read_fits : (flows : List ℕ) → 0 < E → (base : ℕ) (c : Call) (q : Located) → OfBytes c → read_packet s flows base c ≡ located q → Fits s base q
  unfolding source_adu part
  read_fits flows z base (source-call flow p) q (f, b) h =
      let r = source-read flows base flow p q h in
      subst (Fits s base) r.says
      (record {
        ahead = omega arith;
        short = omega (arith, symbols_count flow (source_adu p) E, r.fits);
        formed = source-whole flow (source_adu p) E z f (bytes-part 0 (length p - 4) p b);
      })
  read_fits flows z base (repair-call p) q b h =
      let r = repair-read base p q h in
      let ks = keys (repair_key p) (length (repair_symbols E p)) in
      subst (Fits s base) r.says
      (record {
        ahead = omega arith;
        short = r.fits;
        formed = (
          repair-whole E p r.form b,
          lists_bytes scheme (density_threshold p) (protected_count p) ks,
          length-map ks _ ∙ length-keys (repair_key p) (length (repair_symbols E p)),
        );
      })

  -- Whatever passes the checks lies ahead of the base, is no longer than the window, and has symbols of E bytes.
  pub reading_fits : (flows : List ℕ) → 0 < E → (base room : ℕ) (c : Call) (q : Located) → OfBytes c → reading s flows base room c ≡ located q → Fits s base q
  reading_fits flows z base room c q b h = read_fits flows z base c q b (reading_passed flows base room c q h)

-- ---- Joining

-- A number of four bytes is below 2^32.
four_bytes : (a : ℕ) (p : List ℕ) → a + 4 ≤ length p → Bytes p → number (part a 4 p) < 2 ^ 32
four_bytes a p h b = rw (length_part a 4 p h) at (number_lt (part a 4 p) (bytes-part a 4 p b))

source_small : (p : List ℕ) → source_form p ≡ true → Bytes p → source_esi p < 2 ^ 32
unfolding source_form source_esi
source_small p f b = four_bytes (length p - 4) p (omega (arith, leb-true 4 (length p) f)) b

repair_small : (E : ℕ) (p : List ℕ) → repair_form E p ≡ true → Bytes p → first_esi p < 2 ^ 32
unfolding repair_form first_esi
repair_small E p f b =
    let l : length p ≡ 8 + repair_count E p * E = eqb-true (length p) (8 + repair_count E p * E) (both (within 1 16 (repair_count E p)) _ f).1 in
    four_bytes 4 p (omega (arith, l)) b

-- An ESI lies at its own position.
at_itself : (e : ℕ) → e < 2 ^ 32 → e + distance_of e (e % 2 ^ 32) ≡ e
at_itself e h = omega arith

-- A packet that finds no base begins at its own first ESI.
pub joins_at : (s : Setting) (flows : List ℕ) (room : ℕ) (c : Call) (q : Located) → OfBytes c → reading s flows (esi_of c) room c ≡ located q → first q ≡ esi_of c
joins_at s flows room (source-call flow p) q (f, b) h =
    let r = source-read s flows (source_esi p) flow p q (reading_passed s flows (source_esi p) room (source-call flow p) q h) in
    ap first (sym r.says) ∙ at_itself (source_esi p) (source_small p r.form b)
joins_at s flows room (repair-call p) q b h =
    let r = repair-read s (first_esi p) p q (reading_passed s flows (first_esi p) room (repair-call p) q h) in
    ap first (sym r.says) ∙ at_itself (first_esi p) (repair_small s.size p r.form b)

-- A check that does not fail with a number, nor what comes after it.
not-check : (k : ℕ) (t : Bool) (n : ℕ) (r : Reading) → (n ≡ k → ⊥) → (t ≡ true → r ≡ fails k → ⊥) → check t n r ≡ fails k → ⊥
unfolding check
not-check k true n r a b e = b refl e
not-check k false n r a b e = a (ap number_in e)

-- n symbols at the base itself.
side_here : (n e : ℕ) (next : ℕ → Reading) → e < 2 ^ 32 → n ≤ farthest → from_side n (side_of e e) next ≡ next 0
side_here n e next small h =
    let z : e ≡ (e + 0) % 2 ^ 32 = omega arith in
    ap (λ x. from_side n (side_of e x) next) z ∙ side_taken e 0 (omega arith) n next (omega (arith, limits)) (omega arith)

-- Neither 8 nor 9 can stop it.
pub joins_near : (s : Setting) (flows : List ℕ) → Valid s → (room : ℕ) (c : Call) → OfBytes c → (k : ℕ) → 8 ≤ k → k ≤ 9
    → reading s flows (esi_of c) room c ≡ fails k → ⊥
unfolding reading read_source read_repair
joins_near s flows v room (source-call flow p) (f, b) k lo hi =
    let n = symbol_count s.size (length (source_adu p)) in
    not-check k _ 2 _ (λ e. omega (arith, e))
    (λ _. not-check k (source_form p) 5 _ (λ e. omega (arith, e))
    (λ form. not-check k _ 16 _ (λ e. omega (arith, e))
    (λ _. not-check k (leb (length (source_adu p)) 65535 && leb n s.width) 4 _ (λ e. omega (arith, e))
    (λ fits h.
    let few = leb-true n s.width (both (leb (length (source_adu p)) 65535) _ fits).1 in
    subst IsLocated (sym (side_here n (source_esi p) _ (source_small p form b) (omega (arith, few, v.width_most, limits))) ∙ h) tt))))
joins_near s flows v room (repair-call p) b k lo hi =
    not-check k _ 2 _ (λ e. omega (arith, e))
    (λ _. not-check k (repair_form s.size p) 5 _ (λ e. omega (arith, e))
    (λ form. not-check k (within 1 s.width (protected_count p)) 6 _ (λ e. omega (arith, e))
    (λ fits h.
    let few = (within_bounds 1 s.width (protected_count p) fits).1 in
    not-check k _ 10 _ (λ e. omega (arith, e)) (λ _ g. subst IsLocated g tt)
    (sym (side_here (protected_count p) (first_esi p) _ (repair_small s.size p form b) (omega (arith, few, v.width_most, limits))) ∙ h))))

-- What a call's packet has passed after a history.
pub reading_passes : (s : Setting) (flows : List ℕ) → 0 < s.size → (l : Log) (room : ℕ) (c : Call) (q : Located) → OfBytes c
    → read_after s flows l room c ≡ located q
    → Fits s (base_for (base_of s l) (esi_of c)) q × (base_for (base_of s l) (first q) ≡ base_for (base_of s l) (esi_of c))
reading_passes s flows z l room c q b h =
    (reading_fits s flows z (base_for (base_of s l) (esi_of c)) room c q b h, go (base_of s l) h)
  where
    go : (o : Option ℕ) → reading s flows (base_for o (esi_of c)) room c ≡ located q → base_for o (first q) ≡ base_for o (esi_of c)
    go None k = joins_at s flows room c q b k
    go (Some x) k = refl
