-- The ADU call hands out an ADU exactly when the position is marked and the view shows the ADU's symbols from there on.
-- Index
--   flow_handed, adu-of, withheld
--   Shows: the view shows these symbols from the i-th position on
--   Unpacked: what is handed out at the d-th position
--   handing_exactly
use Rattle.std.specs.Prelude.{◌≡◌, ◌≤◌, ◌+◌, ◌<◌, ◌∷◌, ◌*◌, ◌++◌, ◌↔◌}
use Rattle.words.specs.Words.{arith, ℕ, List, length, refl, ◌∙◌, sym, ap, [], Some, suc, true, zero, None, false, Bool}
use Rattle.words.specs.Words.{subst, Option, drop, ap₂, leb, le-leb, some-injective, none-ne-some, leb-true}
use Rattle.memory.specs.Part.{part}
use Rattle.memory.specs.Number.{number, Bytes}
use Rattle.memory.proofs.Parts.{length_part}
use Rattle.memory.proofs.Number.{bytes-part}
use Rattle.wire.specs.Packets.{joined, chunks, Sized, symbol_count, adui, source_symbols}
use Rattle.wire.proofs.Adui.{room as wire-room, length-adui, symbols_count, symbols_sized}
use Rattle.wire.proofs.Reading.{length-joined, cut_joined}
use Rattle.wire.specs.Flows.{announced}
use Rattle.starts.specs.Adu.{flow_in, length_in, needs, all_zero, View, before, joint, Handing, hands, withholds, need, unpack, begin, handing}
use Rattle.starts.specs.Starts.{Starts}
use Rattle.starts.proofs.Chaining.{needs-some, symbols-some}
use Rattle.starts.proofs.Packing.{part_front, joined-chunks, length_small, packed, adui-length, adui_flow, adui-adu, adui_padding}

-- ---- What is handed out

abbrev IsHands : Handing → Type 0
IsHands (hands flow adu) = Unit {0}
IsHands (withholds n) = ⊥

abbrev pub flow_handed : Handing → ℕ
flow_handed (hands flow adu) = flow
flow_handed (withholds n) = 0

abbrev pub adu-of : Handing → List ℕ
adu-of (hands flow adu) = adu
adu-of (withholds n) = []

pub withheld : (n flow : ℕ) (adu : List ℕ) → ¬ (withholds n ≡ hands flow adu)
withheld n flow adu e = subst IsHands (sym e) tt

needed : (b : Bool) (n : ℕ) (r : Handing) (flow : ℕ) (adu : List ℕ) → need b n r ≡ hands flow adu → (b ≡ true) × (r ≡ hands flow adu)
unfolding need
needed true n r flow adu e = (refl, e)
needed false n r flow adu e = absurd (withheld n flow adu e)

met : (b : Bool) (n : ℕ) (r : Handing) → b ≡ true → need b n r ≡ r
unfolding need
met b n r e = rw e

-- ---- The symbols of a view

-- The view shows these symbols from the i-th position on.
abbrev pub Shows : View → (i : ℕ) → List (List ℕ) → Type 0
Shows see i [] = Unit {0}
Shows see i (v ∷ vs) = (see i ≡ Some v) × Shows see (suc i) vs

-- The bytes of n symbols that the view shows.
record Joint (see : View) (i n : ℕ) (x : List ℕ) : Type 0 where
  symbols : List (List ℕ)
  count : length symbols ≡ n
  shown : Shows see i symbols
  bytes : x ≡ joined symbols

joint_shows : (see : View) (i n : ℕ) (x : List ℕ) → joint see i n ≡ Some x → Joint see i n x
unfolding joint
joint_shows see i zero x e = record { symbols = []; count = refl; shown = tt; bytes = sym (some-injective _ _ e) }
joint_shows see i (suc n) x e = go (see i) (joint see (suc i) n) refl refl e (joint_shows see (suc i) n)
  where
    go : (o r : Option (List ℕ)) → see i ≡ o → joint see (suc i) n ≡ r → before o r ≡ Some x
        → ((y : List ℕ) → joint see (suc i) n ≡ Some y → Joint see (suc i) n y) → Joint see i (suc n) x
    go None r a b e f = absurd (none-ne-some _ e)
    go (Some v) None a b e f = absurd (none-ne-some _ e)
    go (Some v) (Some y) a b e f =
        let j = f y b in
        record {
          symbols = v ∷ j.symbols;
          count = ap suc j.count;
          shown = (a, j.shown);
          bytes = sym (some-injective _ _ e) ∙ ap (λ (l : List ℕ). v ++ l) j.bytes;
        }

shows_joint : (see : View) (i : ℕ) (vs : List (List ℕ)) → Shows see i vs → joint see i (length vs) ≡ Some (joined vs)
unfolding joint
shows_joint see i [] h = refl
shows_joint see i (v ∷ vs) h = ap₂ before h.0 (shows_joint see (suc i) vs h.1)

-- ---- The call

module _ (E width : ℕ) (flows : List ℕ) (room : ℕ) (least : 4 ≤ E) (see : View) where
  -- What is handed out at the d-th position.
  pub record Unpacked (M : Starts) (d flow : ℕ) (adu : List ℕ) : Type 0 where
    pub marked : M d ≡ true
    pub long : length adu ≤ 65535
    pub short : symbol_count E (length adu) ≤ width
    pub flow_announced : announced flows flow ≡ true
    pub fits : length adu ≤ room
    pub symbols : Shows see d (source_symbols flow adu E)

  -- What is left of a whole ADUI when its padding is zero and its flow is announced.
  abbrev given : List ℕ → Handing
  given x = need (leb (length_in x) room) 2 (hands (flow_in x) (part 3 (length_in x) x))

  some_bytes : 0 < E
  some_bytes = omega arith

  -- A whole ADUI of an announced flow is handed out where output has room.
  whole_hands : (flow : ℕ) (adu : List ℕ) → length adu ≤ 65535 → announced flows flow ≡ true → length adu ≤ room
      → unpack E width flows room (Some (adui flow adu E)) ≡ hands flow adu
  whole_hands flow adu l k f =
      let x = adui flow adu E in
      let e : length_in x ≡ length adu = adui-length flow adu E l in
      met (all_zero (drop (3 + length_in x) x)) 14 (need (announced flows (flow_in x)) 16 (given x))
      (subst (λ n. all_zero (drop (3 + n) x) ≡ true) (sym e) (adui_padding flow adu E))
      ∙ met (announced flows (flow_in x)) 16 (given x) (ap (announced flows) (adui_flow flow adu E) ∙ k)
      ∙ met (leb (length_in x) room) 2 (hands (flow_in x) (part 3 (length_in x) x)) (le-leb (length_in x) room (omega (arith, e)))
      ∙ ap₂ hands (adui_flow flow adu E) (ap (λ n. part 3 n x) e ∙ adui-adu flow adu E)

  unpacked_hands : (M : Starts) (d flow : ℕ) (adu : List ℕ) → Unpacked M d flow adu → handing E width flows room M see d ≡ hands flow adu
  unfolding handing source_symbols
  unpacked_hands M d flow adu u =
      let n = symbols_count flow adu E in
      go (source_symbols flow adu E) n (symbols_sized flow adu E some_bytes)
      (joined-chunks (symbol_count E (length adu)) E (adui flow adu E) (length-adui flow adu E some_bytes)) u.symbols
    where
      go : (vs : List (List ℕ)) → length vs ≡ symbol_count E (length adu) → Sized E vs → joined vs ≡ adui flow adu E → Shows see d vs
          → need (M d) 13 (begin E width flows room see d (see d)) ≡ hands flow adu
      go [] n z j s = absurd (omega (arith, n, symbols-some E (length adu) some_bytes))
      go (v ∷ vs) n z j s =
          let l : length_in v ≡ length adu =
          ap number (sym (part_front 1 2 v (joined vs) (omega (arith, z.0)))) ∙ ap length_in j ∙ adui-length flow adu E u.long in
          let k : needs E v ≡ symbol_count E (length adu) = ap (symbol_count E) l in
          let x : joint see d (needs E v) ≡ Some (adui flow adu E) =
          ap (joint see d) (k ∙ sym n) ∙ shows_joint see d (v ∷ vs) s ∙ ap (λ (y : List ℕ). Some y) j in
          met (M d) 13 (begin E width flows room see d (see d)) u.marked ∙ ap (begin E width flows room see d) s.0
          ∙ met (leb (needs E v) width) 14 (unpack E width flows room (joint see d (needs E v))) (le-leb (needs E v) width (omega (arith, k, u.short)))
          ∙ ap (unpack E width flows room) x ∙ whole_hands flow adu u.long u.flow_announced u.fits

  module _ (whole : (i : ℕ) (v : List ℕ) → see i ≡ Some v → (length v ≡ E) × Bytes v) where
    shows_sized : (i : ℕ) (vs : List (List ℕ)) → Shows see i vs → Sized E vs
    shows_sized i [] s = tt
    shows_sized i (v ∷ vs) s = ((whole i v s.0).0, shows_sized (suc i) vs s.1)

    module _ (M : Starts) (d flow : ℕ) (adu : List ℕ) where
      -- The symbols are the ADU's.
      its_symbols : (v x : List ℕ) → see d ≡ Some v → needs E v ≤ width → M d ≡ true → (vs : List (List ℕ)) → length vs ≡ needs E v → Shows see d vs
          → x ≡ joined vs → all_zero (drop (3 + length_in x) x) ≡ true → announced flows (flow_in x) ≡ true → length_in x ≤ room
          → hands (flow_in x) (part 3 (length_in x) x) ≡ hands flow adu
          → Unpacked M d flow adu
      unfolding source_symbols
      its_symbols v x e w m [] n s j z g r h = absurd (omega (arith, n, needs-some E v some_bytes))
      its_symbols v x e w m (y ∷ vs) n s j z g r h =
          let same : y ≡ v = some-injective _ _ (sym s.0 ∙ e) in
          let (size, small) = whole d v e in
          let front : part 1 2 x ≡ part 1 2 v =
          ap (part 1 2) (j ∙ ap (λ (q : List ℕ). q ++ joined vs) same) ∙ part_front 1 2 v (joined vs) (omega (arith, size)) in
          let small' : Bytes (part 1 2 v) = bytes-part 1 2 v small in
          let l : length_in x ≡ length_in v = ap number front in
          let k : length x ≡ symbol_count E (length_in x) * E =
          ap length j ∙ length-joined E (y ∷ vs) (shows_sized d (y ∷ vs) s) ∙ ap (λ q. q * E) (n ∙ ap (symbol_count E) (sym l)) in
          let whole-adui = packed E some_bytes x k (subst Bytes (sym front) small') z in
          let f : flow_in x ≡ flow = ap flow_handed h in
          let a : part 3 (length_in x) x ≡ adu = ap adu-of h in
          let c : length adu ≡ length_in x =
          ap length (sym a) ∙ length_part 3 (length_in x) x (omega (arith, k, wire-room E (length_in x) some_bytes)) in
          let cut : source_symbols flow adu E ≡ y ∷ vs =
          ap₂ (λ q (i : List ℕ). chunks q E i) (ap (symbol_count E) (c ∙ l) ∙ sym n) (ap₂ (λ q i. adui q i E) (sym f) (sym a) ∙ whole-adui ∙ j)
          ∙ cut_joined E (y ∷ vs) (shows_sized d (y ∷ vs) s) in
          record {
            marked = m;
            long = omega (arith, c, l, length_small v (omega (arith, size)) small');
            short = omega (arith, w, ap (symbol_count E) (c ∙ l));
            flow_announced = ap (announced flows) (sym f) ∙ g;
            fits = omega (arith, c, r);
            symbols = subst (Shows see d) (sym cut) s;
          }

      hands_unpacked : handing E width flows room M see d ≡ hands flow adu → Unpacked M d flow adu
      unfolding handing
      hands_unpacked h =
          let (m, k) = needed (M d) 13 (begin E width flows room see d (see d)) flow adu h in
          begun m (see d) refl k
        where
          opened : M d ≡ true → (v : List ℕ) → see d ≡ Some v → needs E v ≤ width → (o : Option (List ℕ)) → joint see d (needs E v) ≡ o
              → unpack E width flows room o ≡ hands flow adu → Unpacked M d flow adu
          opened m v e w None j h = absurd (withheld 12 flow adu h)
          opened m v e w (Some x) j h =
              let (z, q) = needed (all_zero (drop (3 + length_in x) x)) 14 (need (announced flows (flow_in x)) 16 (given x)) flow adu h in
              let (g, k) = needed (announced flows (flow_in x)) 16 (given x) flow adu q in
              let (r, i) = needed (leb (length_in x) room) 2 (hands (flow_in x) (part 3 (length_in x) x)) flow adu k in
              let y = joint_shows see d (needs E v) x j in
              its_symbols v x e w m y.symbols y.count y.shown y.bytes z g (leb-true (length_in x) room r) i

          begun : M d ≡ true → (o : Option (List ℕ)) → see d ≡ o → begin E width flows room see d o ≡ hands flow adu → Unpacked M d flow adu
          begun m None e h = absurd (withheld 12 flow adu h)
          begun m (Some v) e h =
              let (w, k) = needed (leb (needs E v) width) 14 (unpack E width flows room (joint see d (needs E v))) flow adu h in
              opened m v e (leb-true (needs E v) width w) (joint see d (needs E v)) refl k

      pub handing_exactly : (handing E width flows room M see d ≡ hands flow adu) ↔ Unpacked M d flow adu
      handing_exactly = (hands_unpacked, unpacked_hands M d flow adu)
