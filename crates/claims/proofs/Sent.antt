-- The sender's symbols satisfy the sender's packets, which are accepted and shown.
-- Index
--   found_again: a sender's position near the base is found again by its ESI, unless it lies behind
--   Rounds: what arrives is near the base for it, and the offset is a number of whole rounds of ESIs
--   arrived
--   esi_wrote: a sender's packet has the ESI of its position
--   From: packets that begin at a position or later
--   from_zero, written_satisfied, arrived_satisfied, written_filled, joined_from
--   none_accepted: without a base there is no packet
--   sender_fills, peer_size, peer_symbols, sent_accepted, sent_behind, sent-shown
use Rattle.std.specs.Prelude.{◌≡◌, ◌≤◌, ◌+◌, ◌<◌, ◌-◌, ◌%◌, ◌∷◌, ◌++◌, ◌^◌}
use Rattle.words.specs.Words.{arith, ℕ, List, length, refl, ◌∙◌, sym, ap, [], Some, None, subst, Option, mod-lt}
use Rattle.words.specs.Words.{none-ne-some, map, lit<}
use lib.ListN.{length-map}
use Rattle.wire.specs.declared.Scheme.{Scheme}
use Rattle.wire.specs.declared.Setting.{Setting}
use Rattle.wire.specs.Numbers.{distance_of}
use Rattle.wire.specs.Settings.{Valid}
use Rattle.wire.specs.Packets.{Sized, symbol_count, source_symbols, source_packet, repair_packet}
use Rattle.wire.proofs.Reading.{source-adu, source-esi, repair-symbols, repair_key_lem, density_threshold_lem, protected_count_lem, first-esi}
use Rattle.coefficients.specs.Coefficients.{coefficients_of, keys, lists_of}
use Rattle.coefficients.proofs.Lists.{length-keys}
use Rattle.rows.specs.Combination.{combination}
use Rattle.rows.proofs.Combinations.{length-combination}
use Rattle.sender.specs.Run.{SenderCall, symbols_of}
use Rattle.sender.specs.Claims.{AreSymbols}
use Rattle.sender.proofs.Running.{run_valid}
use Rattle.sender.proofs.Symbols.{sender_symbols}
use Rattle.history.specs.History.{Filling, Located, source, repair, first, Satisfied, All, Call, source-call, repair-call, esi_of, Reading, fails, located}
use Rattle.history.specs.History.{working_size, read_packet, reading, base_for, joined_at, Log, fresh, IsValue, read_after, base_of, logged, Judged, halfway}
use Rattle.history.specs.History.{farthest}
use Rattle.wire.specs.Answers.{Said, value, refusal, said}
use Rattle.receiver.specs.Promises.{Layout}
use Rattle.history.proofs.Readings.{source-read, repair-read, reading_passed}
use Rattle.history.proofs.Sides.{limits}
use Rattle.claims.specs.Written.{Packet, Wrote, wrote_source, wrote_repair}
use Rattle.claims.specs.Run.{Step, read, goes_on, history}
use Rattle.claims.specs.Carrying.{Carries}
use Rattle.claims.specs.Reading.{ReadBy}
use Rattle.claims.specs.Sent.{call_of, named, Near, Arrives, AsWritten, InReach, AnnouncedAt, Peers, SenderFills, SentAccepted, SentBehind, SentShown}
use Rattle.claims.proofs.Carrying.{stretch, filler, filler_carries}
use Rattle.claims.proofs.Reading.{reads}

-- A sender's position near the base is found again by its ESI, unless it lies behind.
pub found_again : (p base offset : ℕ) → offset % 2 ^ 32 ≡ 0 → Near p (base + offset) → distance_of (p % 2 ^ 32) (base % 2 ^ 32) < halfway
    → base + distance_of (p % 2 ^ 32) (base % 2 ^ 32) + offset ≡ p
unfolding halfway
found_again p base offset w n h = omega (arith, w, n.ahead, n.behind)

-- What arrives is near the base for it, and the offset is a number of whole rounds of ESIs.
abbrev pub Rounds : (offset : ℕ) → Option ℕ → Type 0
Rounds offset o = (b : ℕ) → o ≡ Some b → offset % 2 ^ 32 ≡ 0

pub arrived : (o : Option ℕ) (offset p : ℕ) → Rounds offset o → Arrives o offset p
    → (offset % 2 ^ 32 ≡ 0) × Near p (base_for o (p % 2 ^ 32) + offset)
arrived None offset p w a = (omega (arith, a), record { ahead = omega (arith, a, limits); behind = omega (arith, a, limits) })
arrived (Some b) offset p w a = (w b refl, a)

-- A sender's packet has the ESI of its position.
pub esi_wrote : (scheme : Scheme) (E : ℕ) (all : List (List ℕ)) (x : Packet) (p : ℕ) → Wrote scheme E all x p → esi_of (call_of x) ≡ p % 2 ^ 32
esi_wrote scheme E all x p (wrote_source before after flow adu i j l e) = source-esi adu (p % 2 ^ 32) (mod-lt p (lit< tt))
esi_wrote scheme E all x p (wrote_repair before window after key dt count k d w v i j o e) = first-esi key dt (length window) (p % 2 ^ 32) _
    (mod-lt p (lit< tt))

-- Packets that begin at a position or later.
abbrev pub From : ℕ → List Located → Type 0
From join [] = Unit {0}
From join (q ∷ qs) = (join ≤ first q) × From join qs

pub from_zero : (qs : List Located) → From 0 qs
from_zero [] = tt
from_zero (q ∷ qs) = (omega arith, from_zero qs)

module _ (s : Setting) (flows : List ℕ) (z : 0 < s.size) (all : List (List ℕ)) where
  open s use {scheme, size as E, width}

  -- ---- The repair symbols of a window

  abbrev repairs : (window : List (List ℕ)) (key dt count : ℕ) → List (List ℕ)
  repairs window key dt count = map (λ (c : List ℕ). combination E c window) (lists_of scheme dt (length window) (keys key count))

  keys_sized : (window : List (List ℕ)) (dt : ℕ) (ks : List ℕ)
      → Sized E (map (λ (c : List ℕ). combination E c window) (lists_of scheme dt (length window) ks))
  keys_sized window dt [] = tt
  keys_sized window dt (k ∷ ks) = (length-combination E (coefficients_of scheme k dt (length window)).list window, keys_sized window dt ks)

  repairs_sized : (window : List (List ℕ)) (key dt count : ℕ) → Sized E (repairs window key dt count)
  repairs_sized window key dt count = keys_sized window dt (keys key count)

  repairs_count : (window : List (List ℕ)) (key dt count : ℕ) → length (repairs window key dt count) ≡ count
  repairs_count window key dt count =
      length-map (lists_of scheme dt (length window) (keys key count)) _ ∙ length-map (keys key count) _ ∙ length-keys key count

  -- ---- A packet near the base is satisfied by the sender's symbols

  module _ (offset : ℕ) (rounds : offset % 2 ^ 32 ≡ 0) (base : ℕ) where
    source_satisfied : (before after : List (List ℕ)) (flow : ℕ) (adu : List ℕ) → all ≡ before ++ (source_symbols flow adu E ++ after)
        → Near (length before) (base + offset) → (q : Located)
        → read_packet s flows base (source-call flow (source_packet adu (length before % 2 ^ 32))) ≡ located q
        → (join : ℕ) → join ≤ first q → (f : Filling E) → Carries E join offset all f → Satisfied E q f
    source_satisfied before after flow adu e n q h join l f c =
        let p = length before in
        let r = source-read s flows base flow _ q h in
        let esi-is = source-esi adu (p % 2 ^ 32) (mod-lt p (lit< tt)) in
        let here = found_again p base offset rounds n (rw esi-is at r.near) in
        let d = distance_of (p % 2 ^ 32) (base % 2 ^ 32) in
        let at : join ≤ base + d = rw esi-is at (subst (λ x. join ≤ first x) (sym r.says) l) in
        subst (λ x. Satisfied E x f) r.says
        (rw (esi-is, source-adu adu (p % 2 ^ 32)) (stretch E join offset f before (source_symbols flow adu E) after all e c (base + d) at here))

    repair_satisfied : (before window after : List (List ℕ)) (key dt count : ℕ) → key < 2 ^ 16 → dt ≤ 15 → length window ≤ 255
        → all ≡ before ++ (window ++ after) → Near (length before) (base + offset) → (q : Located)
        → read_packet s flows base (repair-call (repair_packet key dt (length window) (length before % 2 ^ 32) (repairs window key dt count))) ≡ located q
        → (join : ℕ) → join ≤ first q → (f : Filling E) → Carries E join offset all f → Satisfied E q f
    repair_satisfied before window after key dt count k i w e n q h join l f c =
        let p = length before in
        let m = length window in
        let xs = repairs window key dt count in
        let r = repair-read s base _ q h in
        let esi-is = first-esi key dt m (p % 2 ^ 32) xs (mod-lt p (lit< tt)) in
        let here = found_again p base offset rounds n (rw esi-is at r.near) in
        let d = distance_of (p % 2 ^ 32) (base % 2 ^ 32) in
        let at : join ≤ base + d = rw esi-is at (subst (λ x. join ≤ first x) (sym r.says) l) in
        subst (λ x. Satisfied E x f) r.says
        (rw (
          esi-is,
          repair_key_lem key dt m (p % 2 ^ 32) xs k,
          density_threshold_lem key dt m (p % 2 ^ 32) xs (omega arith) (omega arith),
          protected_count_lem key dt m (p % 2 ^ 32) xs (omega arith) (omega arith),
          repair-symbols key dt m (p % 2 ^ 32) E xs (repairs_sized window key dt count) z,
          repairs_count window key dt count,
        )
        (ap (λ (x : List (List ℕ)). map (λ (l : List ℕ). combination E l x) (lists_of scheme dt m (keys key count)))
        (stretch E join offset f before window after all e c (base + d) at here)))

    pub written_satisfied : (x : Packet) (p : ℕ) → Wrote scheme E all x p → Near p (base + offset) → (q : Located)
        → read_packet s flows base (call_of x) ≡ located q → (join : ℕ) → join ≤ first q → (f : Filling E) → Carries E join offset all f → Satisfied E q f
    written_satisfied x p (wrote_source before after flow adu i j l e) near q h join m f g =
        source_satisfied before after flow adu e near q h join m f g
    written_satisfied x p (wrote_repair before window after key dt count k d w v i j o e) near q h join m f g =
        repair_satisfied before window after key dt count k d v e near q h join m f g

    -- ---- A packet of the sender's is read by how far it lies from the base

    written_read : (x : Packet) (p : ℕ) → Wrote scheme E all x p → AnnouncedAt flows x → named E x ≤ width → Valid s → (room : ℕ) → working_size s ≤ room
        → (d : ℕ) → d < 2 ^ 32 → (base + d) % 2 ^ 32 ≡ p % 2 ^ 32 → (q : Located) × ReadBy d (named E x) q (reading s flows base room (call_of x))
    written_read x p (wrote_source before after flow adu i j l e) known k w room enough d small here =
        let n = ap (λ (y : List ℕ). symbol_count E (length y)) (source-adu adu (length before % 2 ^ 32)) in
        let q = source (base + d) (source_symbols flow adu E) in
        let g = (reads s w flows base room d enough small).sources flow adu known l (omega (arith, n, k)) in (
          q,
          subst (λ (i : ℕ). ReadBy d i q (reading s flows base room (source-call flow (source_packet adu (length before % 2 ^ 32))))) (sym n)
              (subst (λ (y : ℕ). ReadBy d (symbol_count E (length adu)) q (reading s flows base room (source-call flow (source_packet adu y)))) here g),
        )
    written_read x p (wrote_repair before window after key dt count i j u v c d' ok e) known k w room enough d small here =
        let m = length window in
        let xs = repairs window key dt count in
        let many = repairs_count window key dt count in
        let n = protected_count_lem key dt m (length before % 2 ^ 32) xs (omega arith) (omega arith) in
        let q = repair (base + d) m (lists_of scheme dt m (keys key (length xs))) xs in
        let g = (reads s w flows base room d enough small).repairs key dt m xs i j u (omega (arith, n, k)) (repairs_sized window key dt count)
        (omega (arith, many)) (omega (arith, many)) (rw many ok) in (
          q,
          subst (λ (i : ℕ). ReadBy d i q (reading s flows base room (repair-call (repair_packet key dt m (length before % 2 ^ 32) xs)))) (sym n)
              (subst (λ (y : ℕ). ReadBy d m q (reading s flows base room (repair-call (repair_packet key dt m y xs)))) here g),
        )

    read_ahead : (x : Packet) (p : ℕ) → Wrote scheme E all x p → AnnouncedAt flows x → base + offset ≤ p → p + named E x ≤ base + offset + farthest
        → named E x ≤ width → Valid s → (room : ℕ) → working_size s ≤ room → (q : Located) × (reading s flows base room (call_of x) ≡ located q)
    read_ahead x p o known a b k w room enough =
        let (q, r) = written_read x p o known k w room enough (p - (base + offset)) (omega (arith, limits)) (omega (arith, rounds)) in
        (q, r.taken (omega (arith, limits)) (omega arith))

    read_behind : (x : Packet) (p : ℕ) → Wrote scheme E all x p → AnnouncedAt flows x → p < base + offset → base + offset ≤ p + halfway → named E x ≤ width
        → Valid s → (room : ℕ) → working_size s ≤ room → reading s flows base room (call_of x) ≡ fails 8
    read_behind x p o known a b k w room enough =
        let (q, r) = written_read x p o known k w room enough (p + 2 ^ 32 - (base + offset)) (omega arith) (omega (arith, rounds, limits)) in
        r.behind (omega (arith, limits))

  -- ---- The list

  -- Every filling that carries the symbols from a position on satisfies packets that begin there or later.
  abbrev Filled : (offset : ℕ) → List Located → Type 0
  Filled offset qs = (join : ℕ) → From join qs → (f : Filling E) → Carries E join offset all f → All E qs f

  -- What a written packet that is accepted adds.
  record Adds (offset : ℕ) (q : Located) : Type 0 where
    rounds : offset % 2 ^ 32 ≡ 0
    satisfied : (join : ℕ) → join ≤ first q → (f : Filling E) → Carries E join offset all f → Satisfied E q f

  logged_filled : (offset : ℕ) (l : Log) (r : Reading) (a : Said) → ((q : Located) → r ≡ located q → IsValue a → Adds offset q)
      → Rounds offset (base_of s l) → Filled offset l → Rounds offset (base_of s (logged s l r a)) × Filled offset (logged s l r a)
  logged_filled offset l (fails m) a h w g = (w, g)
  logged_filled offset l (located q) (refusal m) h w g = (w, g)
  logged_filled offset l (located q) (value k) h w g =
      let y = h q refl tt in
      ((λ b e. y.rounds), (λ join n f c. (y.satisfied join n.0 f c, g join n.1 f c)))

  pub arrived_satisfied : (offset : ℕ) (l : Log) (t : Step) (q : Located) → read s flows l t ≡ located q → (x : Packet) (p : ℕ) → call_of x ≡ t.call
      → Wrote scheme E all x p → Rounds offset (base_of s l) → Arrives (base_of s l) offset p
      → (offset % 2 ^ 32 ≡ 0) × Near p (base_for (base_of s l) (esi_of t.call) + offset)
      × (read_packet s flows (base_for (base_of s l) (esi_of t.call)) (call_of x) ≡ located q)
  arrived_satisfied offset l t q e x p i o w a =
      let (rounds, near) = arrived (base_of s l) offset p w a in
      let base = base_for (base_of s l) (esi_of t.call) in
      let is : p % 2 ^ 32 ≡ esi_of t.call = sym (esi_wrote scheme E all x p o) ∙ ap esi_of i in (
        rounds,
        subst (λ y. Near p (base_for (base_of s l) y + offset)) is near,
        ap (read_packet s flows base) i ∙ reading_passed s flows base (length t.working) t.call q e,
      )

  filled : (offset : ℕ) (ts : List Step) (l : Log) → AsWritten s flows all offset l ts → Rounds offset (base_of s l) → Filled offset l
      → Rounds offset (base_of s (goes_on s flows l ts)) × Filled offset (goes_on s flows l ts)
  filled offset [] l w o g = (o, g)
  filled offset (t ∷ ts) l w o g =
      let (o', g') =
      logged_filled offset l (read s flows l t) (said t.answer)
      (λ q e a.
      let (x, p, i, y, arrives) = w.0 a in
      let (rounds, near, h) = arrived_satisfied offset l t q e x p i y o arrives in
      record { rounds = rounds; satisfied = written_satisfied offset rounds (base_for (base_of s l) (esi_of t.call)) x p y near q h }) o g in
      filled offset ts _ w.1 o' g'

  pub written_filled : (offset : ℕ) (ts : List Step) → AsWritten s flows all offset fresh ts
      → Rounds offset (base_of s (history s flows ts)) × Filled offset (history s flows ts)
  written_filled offset ts w = filled offset ts fresh w (λ b e. absurd (none-ne-some b e)) (λ join n f c. tt)

-- ---- Where the packets of a history begin

module _ (s : Setting) (flows : List ℕ) where
  -- Whatever position is to be the joining one: all packets begin there or later, and the base is no earlier.
  abbrev Led : Log → Type 0
  Led l = (e : ℕ) → From (base_for (joined_at l) e) l × (base_for (joined_at l) e ≤ base_for (base_of s l) e)

  -- A packet that was read begins at the base for it or later.
  begins : (base : ℕ) (c : Call) (q : Located) → read_packet s flows base c ≡ located q → base ≤ first q
  begins base (source-call flow p) q h = subst (λ x. base ≤ first x) (source-read s flows base flow p q h).says (omega arith)
  begins base (repair-call p) q h = subst (λ x. base ≤ first x) (repair-read s base p q h).says (omega arith)

  begins_after : (o : Option ℕ) (room : ℕ) (c : Call) (q : Located) → reading s flows (base_for o (esi_of c)) room c ≡ located q → base_for o (first q) ≤ first q
  begins_after None room c q h = omega arith
  begins_after (Some b) room c q h = begins b c q (reading_passed s flows b room c q h)

  logged_led : (l : Log) (r : Reading) (a : Said) → ((q : Located) → r ≡ located q → base_for (base_of s l) (first q) ≤ first q) → Led l → Led (logged s l r a)
  logged_led l (fails m) a h k = k
  logged_led l (located q) (refusal m) h k = k
  logged_led l (located q) (value n) h k =
      λ e. let (f, b) = k (first q) in let g = h q refl in ((omega (arith, b, g), f), omega (arith, b))

  led : (ts : List Step) (l : Log) → Led l → Led (goes_on s flows l ts)
  led [] l k = k
  led (t ∷ ts) l k = led ts _ (logged_led l (read s flows l t) (said t.answer) (begins_after (base_of s l) (length t.working) t.call) k)

  pub joined_from : (ts : List Step) (join : ℕ) → joined_at (history s flows ts) ≡ Some join → From join (history s flows ts)
  joined_from ts join e =
      subst (λ o. From (base_for o 0) (history s flows ts)) e (led ts fresh (λ e. (tt, omega arith)) 0).0

-- Without a base there is no packet.
pub none_accepted : (s : Setting) (l : Log) → base_of s l ≡ None → l ≡ []
none_accepted s [] e = refl
none_accepted s (q ∷ l) e = absurd (none-ne-some _ (sym e))

pub sender_fills : SenderFills
sender_fills s v flows all offset ts w join e f c =
    (written_filled s flows (omega (arith, v.size_least)) all offset ts w).1 join (joined_from s flows ts join e) f c

module _ (t s : Setting) (l : List SenderCall) (k : Peers t s l) where
  abbrev all : List (List ℕ)
  all = symbols_of s.size l

  pub peer_size : 4 ≤ s.size
  peer_size = subst (λ n. 4 ≤ n) k.size (run_valid t l k.run).size_least

  some_bytes : 0 < s.size
  some_bytes = omega (arith, peer_size)

  pub peer_symbols : AreSymbols s.size all
  peer_symbols = subst (λ E. AreSymbols E (symbols_of E l)) k.size (sender_symbols t l k.run)

  abbrev f : (offset : ℕ) → Filling s.size
  f offset = filler s.size offset all

  carries : (offset : ℕ) → Carries s.size 0 offset all (f offset)
  carries offset = filler_carries s.size offset all peer_symbols

  accepted : (flows : List ℕ) (offset : ℕ) (ts : List Step) → AsWritten s flows all offset fresh ts → All s.size (history s flows ts) (f offset)
  accepted flows offset ts w = (written_filled s flows some_bytes all offset ts w).1 0 (from_zero (history s flows ts)) (f offset) (carries offset)

  -- A packet that is read at a base, and is satisfied with all before, is accepted.
  taken : (flows : List ℕ) (ts : List Step) (x : Packet) (p : ℕ) → Wrote s.scheme s.size all x p → AnnouncedAt flows x → Valid s
      → named s.size x ≤ s.width → (room : ℕ) → working_size s ≤ room
      → (a : Said) → Judged s (history s flows ts) (read_after s flows (history s flows ts) room (call_of x)) a
      → (base offset : ℕ) → offset % 2 ^ 32 ≡ 0 → base_for (base_of s (history s flows ts)) (esi_of (call_of x)) ≡ base
      → base + offset ≤ p → p + named s.size x ≤ base + offset + farthest
      → All s.size (history s flows ts) (f offset) → IsValue a
  taken flows ts x p o known v c room enough a j base offset rounds is h g filled =
      let (q, e) = read_ahead s flows some_bytes all offset rounds base x p o known h g c v room enough in
      let near : Near p (base + offset) = record { ahead = omega (arith, g, limits); behind = omega (arith, h, limits) } in
      let r = reading_passed s flows base room (call_of x) q e in
      let sat = written_satisfied s flows some_bytes all offset rounds base x p o near q r 0 (omega arith) (f offset) (carries offset) in
      j.accepted.1 (q, ap (λ b. reading s flows b room (call_of x)) is ∙ e, (f offset, (sat, filled)))

pub sent_accepted : SentAccepted
sent_accepted t s l k v flows offset ts w x p o known within c room enough a j = go (base_of s (history s flows ts)) refl within
  where
    few : named s.size x ≤ 255
    few = omega (arith, c, v.width_most)

    go : (u : Option ℕ) → base_of s (history s flows ts) ≡ u → InReach u offset p (named s.size x) → IsValue a
    go None e h =
        let n = p - p % 2 ^ 32 in
        let sum : p % 2 ^ 32 + n ≡ p = omega arith in
        taken t s l k flows ts x p o known v c room enough a j (p % 2 ^ 32) n (omega arith)
        (ap (λ u. base_for u (esi_of (call_of x))) e ∙ esi_wrote s.scheme s.size (symbols_of s.size l) x p o) (omega (arith, sum))
        (omega (arith, sum, few, limits))
        (subst (λ qs. All s.size qs (filler s.size n (symbols_of s.size l))) (sym (none_accepted s (history s flows ts) e)) tt)
    go (Some b) e (h, g) =
        taken t s l k flows ts x p o known v c room enough a j b offset
        ((written_filled s flows (omega (arith, v.size_least)) (symbols_of s.size l) offset ts w).0 b e) (ap (λ u. base_for u (esi_of (call_of x))) e) h g
        (accepted t s l k flows offset ts w)

pub sent_behind : SentBehind
sent_behind t s l k v flows offset ts w b e x p o known h g c room enough a j =
    let all = symbols_of s.size l in
    let z : 0 < s.size = omega (arith, v.size_least) in
    let rounds = (written_filled s flows z all offset ts w).0 b e in
    j.failed 8
    (ap (λ u. reading s flows (base_for u (esi_of (call_of x))) room (call_of x)) e ∙ read_behind s flows z all offset rounds b x p o known h g c v room enough)

pub sent-shown : (L : Layout) → SentShown L
sent-shown L t s l k flows ts m d offset w b e i h n a p z memory part g q =
    let o = d.window b e i h in
    o.sender memory part g q ((o.shown a p).0 z) (all t s l k) 0 offset (f t s l k offset) (accepted t s l k flows offset ts w) (carries t s l k offset)
    (omega arith) n
