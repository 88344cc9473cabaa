-- A sender's ADUs at the receiver: only the ADU that begins at a position is handed out there, and packets of the sender's alone mark no other start.
-- Index
--   junk_gives
--   first_here: where a filling holds an ADU from a position on, its first symbol stands there, and says its length
--   length_here, start_gives, sent-written, sent-starts, sent-handed
use Rattle.std.specs.Prelude.{◌≡◌, ◌≤◌, ◌+◌, ◌<◌, ◌%◌, ◌∷◌, ◌++◌, ◌^◌, ◌⊎◌, Ok, Err}
use Rattle.words.specs.Words.{arith, ℕ, List, length, refl, ◌∙◌, sym, ap, [], get_or, subst, mod-lt, none-ne-some}
use Rattle.words.specs.Words.{add-zero, length-append, inr, inl, lit<, append-nil}
use lib.Seq.{append_snoc}
use Rattle.wire.specs.declared.Setting.{Setting}
use Rattle.wire.specs.Numbers.{distance_of}
use Rattle.wire.specs.Packets.{symbol_count, source_symbols}
use Rattle.wire.proofs.Adui.{symbols_count}
use Rattle.wire.proofs.Reading.{source-adu, source-esi}
use Rattle.starts.specs.Adu.{length_in, needs}
use Rattle.history.specs.Symbol.{bytes_of, symbol_of}
use Rattle.history.specs.History.{Filling, symbols_at, Located, Satisfied, All, Known, Reading, fails, located, read_packet, esi_of, base_for, base_of, Log, fresh}
use Rattle.history.specs.History.{IsValue, logged, MarkedBy, Reached, already, later, Start}
use Rattle.wire.specs.Answers.{Said, value, refusal, said}
use Rattle.starts.proofs.Chaining.{symbols-some}
use Rattle.history.proofs.Says.{symbol_bytes, get_d_at}
use Rattle.history.proofs.Readings.{source-read, repair-read}
use Rattle.sender.specs.Run.{SenderCall, added, repaired, symbols_of}
use Rattle.sender.proofs.Running.{symbols-append}
use Rattle.claims.specs.Written.{Packet, Wrote}
use Rattle.claims.specs.Run.{Step, read, goes_on, history}
use Rattle.claims.specs.Carrying.{Carries}
use Rattle.claims.specs.Handing.{HoldsAdu}
use Rattle.claims.specs.Sent.{call_of, Near, AsWritten, Peers}
use Rattle.claims.specs.SentAdus.{Begins, Boundary, Sent, sent-source, sent-repair, AsSent, StartGives, JunkGives, SentWritten, SentStarts}
use Rattle.claims.specs.SentAdus.{SentHanded}
use Rattle.claims.proofs.Sending.{begun, begun-symbols, sent_wrote}
use Rattle.claims.proofs.Adus.{length-first, same_adu}
use Rattle.claims.proofs.Carrying.{carried_stretch, stretch, Differ, differ}
use Rattle.claims.proofs.Sent.{found_again, Rounds, arrived_satisfied, written_satisfied, peer_size, peer_symbols}

-- ---- What is handed out at a position

pub junk_gives : JunkGives
junk_gives s qs base join offset all f a c p flow adu j h n =
    sym (h.held f a) ∙ carried_stretch s.size join offset all f c p (symbol_count s.size (length adu)) j n

-- Where a filling holds an ADU from a position on, its first symbol stands there, and says its length.
pub first_here : (E : ℕ) → 0 < E → (f : Filling E) (p flow : ℕ) (adu : List ℕ)
    → symbols_at E f p (symbol_count E (length adu)) ≡ source_symbols flow adu E → bytes_of E (f p) ≡ get_or (source_symbols flow adu E) 0 []
first_here E z f p flow adu e =
    ap (λ q. bytes_of E (f q)) (sym (add-zero p)) ∙ sym (get_d_at E f p (symbol_count E (length adu)) 0 (symbols-some E (length adu) z))
    ∙ ap (λ (l : List (List ℕ)). get_or l 0 []) e

pub length_here : (E : ℕ) → 4 ≤ E → (f : Filling E) (p flow : ℕ) (adu : List ℕ) → length adu ≤ 65535
    → symbols_at E f p (symbol_count E (length adu)) ≡ source_symbols flow adu E → length_in (bytes_of E (f p)) ≡ length adu
length_here E z f p flow adu h e = ap length_in (first_here E (omega arith) f p flow adu e) ∙ length-first flow adu E z h

-- A filling that holds two ADUs from one position on holds one.
one-adu : (E : ℕ) → 4 ≤ E → (f : Filling E) (p flow flow' : ℕ) (adu adu' : List ℕ) → length adu ≤ 65535 → length adu' ≤ 65535
    → symbols_at E f p (symbol_count E (length adu)) ≡ source_symbols flow adu E
    → symbols_at E f p (symbol_count E (length adu')) ≡ source_symbols flow' adu' E → (flow ≡ flow') × (adu ≡ adu')
one-adu E z f p flow flow' adu adu' h h' e e' =
    let n : length adu ≡ length adu' = sym (length_here E z f p flow adu h e) ∙ length_here E z f p flow' adu' h' e' in
    same_adu flow flow' adu adu' E z n (sym e ∙ ap (λ (k : ℕ). symbols_at E f p (symbol_count E k)) n ∙ e')

-- Where a filling carries the sender's symbols, it holds an ADU of the sender's from its first position on.
begun_held : (E : ℕ) (l : List SenderCall) (join offset : ℕ) (f : Filling E) → Carries E join offset (symbols_of E l) f
    → (p flow : ℕ) (adu : List ℕ) → join ≤ p → Begins E l (p + offset) flow adu → symbols_at E f p (symbol_count E (length adu)) ≡ source_symbols flow adu E
begun_held E l join offset f c p flow adu j b =
    let ys = source_symbols flow adu E in
    ap (symbols_at E f p) (sym (symbols_count flow adu E))
    ∙ stretch E join offset f (symbols_of E b.before) ys (symbols_of E b.after) (symbols_of E l) (begun-symbols E l (p + offset) flow adu b) c p j b.place

-- ---- Boundaries

module _ (E : ℕ) (l : List SenderCall) where
  -- An ADU's first position is one, and so is the one after its last.
  begun_boundary : (p flow : ℕ) (adu : List ℕ) → Begins E l p flow adu → Boundary E l p
  begun_boundary p flow adu b = record { before = b.before; after = _; split = b.split; place = b.place }

  end_boundary : (p flow : ℕ) (adu : List ℕ) → Begins E l p flow adu → Boundary E l (p + symbol_count E (length adu))
  end_boundary p flow adu b =
      let x = added flow adu b.out (Ok b.answer) b.m' b.out' in
      let n = ap length (symbols-append E b.before (x ∷ [])) ∙ length-append (symbols_of E b.before) (source_symbols flow adu E ++ [])
      ∙ ap (λ (ys : List (List ℕ)). length (symbols_of E b.before) + length ys) (append-nil (source_symbols flow adu E)) in
      record {
        before = b.before ++ (x ∷ []);
        after = b.after;
        split = b.split ∙ sym (append_snoc b.before x b.after);
        place = omega (arith, n, b.place, symbols_count flow adu E);
      }

  -- A call without symbols is passed over.
  pass : (p : ℕ) (before : List SenderCall) (x : SenderCall) → symbols_of E (x ∷ []) ≡ [] → p ≡ length (symbols_of E before)
      → p ≡ length (symbols_of E (before ++ (x ∷ [])))
  pass p before x e h = rw (symbols-append E before (x ∷ []), e, append-nil (symbols_of E before)) h

  -- At a boundary an ADU begins, or all symbols end.
  begins_or_ends : (p : ℕ) (before after : List SenderCall) → l ≡ before ++ after → p ≡ length (symbols_of E before)
      → ((flow : ℕ) × (adu : List ℕ) × Begins E l p flow adu) ⊎ (p ≡ length (symbols_of E l))
  begins_or_ends p before [] e h = inr (h ∙ ap (λ (k : List SenderCall). length (symbols_of E k)) (sym (append-nil before) ∙ sym e))
  begins_or_ends p before (added flow adu out (Ok n) m' out' ∷ after) e h =
      inl (flow, adu, record { before = before; after = after; out = out; answer = n; m' = m'; out' = out'; split = e; place = h })
  begins_or_ends p before (added flow adu out (Err n) m' out' ∷ after) e h =
      let x = added flow adu out (Err n) m' out' in
      begins_or_ends p (before ++ (x ∷ [])) after (e ∙ sym (append_snoc before x after)) (pass p before x refl h)
  begins_or_ends p before (repaired key dt count out r out' ∷ after) e h =
      let x = repaired key dt count out r out' in
      begins_or_ends p (before ++ (x ∷ [])) after (e ∙ sym (append_snoc before x after)) (pass p before x refl h)

-- ---- The sender's packets alone

module _ (t s : Setting) (l : List SenderCall) (k : Peers t s l) where
  open s use {scheme, size as E}

  abbrev all : List (List ℕ)
  all = symbols_of E l

  -- Its packets are of its symbols, and its ADUs are short.
  wrote : (x : Packet) (p : ℕ) → Sent scheme E l x p → Wrote scheme E all x p
  wrote x p =
      subst (λ c. Sent c E l x p → Wrote c E all x p) k.scheme
      (subst (λ n. Sent t.scheme n l x p → Wrote t.scheme n (symbols_of n l) x p) k.size (sent_wrote t l k.run x p))

  short : (p flow : ℕ) (adu : List ℕ) → Begins E l p flow adu → length adu ≤ 65535
  short p flow adu b = (begun t l k.run p flow adu (subst (λ n. Begins n l p flow adu) (sym k.size) b)).short

  -- Only the ADU that begins at a position is handed out there.
  gives : (qs : List Located) (base join offset : ℕ) (f : Filling E) → All E qs f → Carries E join offset all f → (p flow : ℕ) (adu : List ℕ)
      → join ≤ p → HoldsAdu s qs base p flow adu → (flow' : ℕ) (adu' : List ℕ) → Begins E l (p + offset) flow' adu' → (flow ≡ flow') × (adu ≡ adu')
  gives qs base join offset f a c p flow adu j h flow' adu' b =
      one-adu E (peer_size t s l k) f p flow flow' adu adu' h.long (short (p + offset) flow' adu' b) (h.held f a)
      (begun_held E l join offset f c p flow' adu' j b)

  -- Packets that every filling that carries the sender's symbols satisfies.
  module _ (offset : ℕ) (qs : List Located) (filled : (f : Filling E) → Carries E 0 offset all f → All E qs f) where
    abbrev ends : Differ E offset all
    ends = differ E offset (omega (arith, peer_size t s l k)) all (peer_symbols t s l k)

    -- The position after the symbols is not known.
    end_unknown : (p : ℕ) → p + offset ≡ length all → Known E qs p → ⊥
    end_unknown p e known = ends.apart p e (known ends.one ends.other (filled _ ends.one_carries) (filled _ ends.other_carries))

    -- A chain goes from a boundary to a boundary.
    next : (p : ℕ) → Boundary E l (p + offset) → Known E qs p → (f : Filling E) → All E qs f → Boundary E l (p + needs E (bytes_of E (f p)) + offset)
    next p b known f a = go (begins_or_ends E l (p + offset) b.before b.after b.split b.place)
      where
        go : ((flow : ℕ) × (adu : List ℕ) × Begins E l (p + offset) flow adu) ⊎ (p + offset ≡ length all) → Boundary E l
            (p + needs E (bytes_of E (f p)) + offset)
        go (inr e) = absurd (end_unknown p e known)
        go (inl (flow, adu, g)) =
            let c = ends.one in
            let same : bytes_of E (f p) ≡ bytes_of E (c p) = ap (bytes_of E) (known f c a (filled c ends.one_carries)) in
            let here = begun_held E l 0 offset c ends.one_carries p flow adu (omega arith) g in
            let n = length_here E (peer_size t s l k) c p flow adu (short (p + offset) flow adu g) here in
            let after : p + offset + symbol_count E (length adu) ≡ p + symbol_count E (length adu) + offset = omega arith in
            subst (λ (i : ℕ). Boundary E l (p + symbol_count E i + offset)) (sym (ap length_in same ∙ n))
            (subst (Boundary E l) after (end_boundary E l (p + offset) flow adu g))

    -- So all that it reaches from boundaries are boundaries.
    reached : (base : ℕ) (Already : ℕ → Type 0) → ((x : ℕ) → Already x → Boundary E l (x + offset)) → (p : ℕ) → Reached s qs base Already p
        → Boundary E l (p + offset)
    reached base Already h p (already a m) = h p a
    reached base Already h p (later {p = q} r w known f a m) = next q (reached base Already h q r) known f a

    -- An ADU that every filling holds from a boundary on begins there.
    held_begins : (p : ℕ) → Boundary E l (p + offset) → (base flow : ℕ) (adu : List ℕ) → HoldsAdu s qs base p flow adu → Begins E l (p + offset) flow adu
    held_begins p b base flow adu h = go (begins_or_ends E l (p + offset) b.before b.after b.split b.place)
      where
        bytes : (f : Filling E) → All E qs f → bytes_of E (f p) ≡ get_or (source_symbols flow adu E) 0 []
        bytes f a = first_here E (omega (arith, peer_size t s l k)) f p flow adu (h.held f a)

        go : ((flow' : ℕ) × (adu' : List ℕ) × Begins E l (p + offset) flow' adu') ⊎ (p + offset ≡ length all) → Begins E l (p + offset) flow adu
        go (inr e) =
            absurd (end_unknown p e (λ f g a c. sym (symbol_bytes E (f p)) ∙ ap (symbol_of E) (bytes f a ∙ sym (bytes g c)) ∙ symbol_bytes E (g p)))
        go (inl (flow', adu', g)) =
            let c = ends.one in
            let (e, d) = gives qs base 0 offset c (filled c ends.one_carries) ends.one_carries p flow adu (omega arith) h flow' adu' g in
            rw (e, d) g

  -- ---- The list

  module _ (flows : List ℕ) (offset : ℕ) where
    -- A packet that the sender's symbols satisfy and that names boundaries only.
    record Keeps (q : Located) : Type 0 where
      rounds : offset % 2 ^ 32 ≡ 0
      satisfied : (f : Filling E) → Carries E 0 offset all f → Satisfied E q f
      names : (p : ℕ) → MarkedBy s q p → Boundary E l (p + offset)

    -- Of a log whose packets are all so: they are satisfied, and every start is a boundary.
    record Kept (g : Log) : Type 0 where
      rounds : Rounds offset (base_of s g)
      filled : (f : Filling E) → Carries E 0 offset all f → All E g f
      starts : (p : ℕ) → Start s g p → Boundary E l (p + offset)

    -- A packet of the sender's near the base names boundaries only.
    sent-names : (x : Packet) (p : ℕ) → Sent scheme E l x p → (base : ℕ) → offset % 2 ^ 32 ≡ 0 → Near p (base + offset) → (q : Located)
        → read_packet s flows base (call_of x) ≡ located q → (i : ℕ) → MarkedBy s q i → Boundary E l (i + offset)
    sent-names x p (sent-source {flow = flow} {adu = adu} b) base rounds near q h i =
        let r = source-read s flows base flow _ q h in
        let esi-is = source-esi adu (p % 2 ^ 32) (mod-lt p (lit< tt)) in
        let d = distance_of (p % 2 ^ 32) (base % 2 ^ 32) in
        let here : base + d + offset ≡ p = found_again p base offset rounds near (rw esi-is at r.near) in
        subst (λ y. MarkedBy s y i → Boundary E l (i + offset)) r.says
        (rw (esi-is, source-adu adu (p % 2 ^ 32)) (λ n. go d here n))
      where
        go : (d : ℕ) → base + d + offset ≡ p → (i ≡ base + d) ⊎ (i ≡ base + d + length (source_symbols flow adu E)) → Boundary E l (i + offset)
        go d here (inl e) = let z : p ≡ i + offset = omega (arith, here, e) in subst (Boundary E l) z (begun_boundary E l p flow adu b)
        go d here (inr e) =
            let n = symbols_count flow adu E in
            let z : p + symbol_count E (length adu) ≡ i + offset = omega (arith, here, e, n) in
            subst (Boundary E l) z (end_boundary E l p flow adu b)
    sent-names x p (sent-repair w) base rounds near q h i =
        subst (λ y. MarkedBy s y i → Boundary E l (i + offset)) (repair-read s base _ q h).says (λ n. absurd n)

    logged_kept : (g : Log) (r : Reading) (a : Said) → ((q : Located) → r ≡ located q → IsValue a → Keeps q) → Kept g → Kept (logged s g r a)
    logged_kept g (fails m) a h w = w
    logged_kept g (located q) (refusal m) h w = w
    logged_kept g (located q) (value n) h w =
        let y = h q refl tt in
        let z : (f : Filling E) → Carries E 0 offset all f → All E (q ∷ g) f = λ f c. (y.satisfied f c, w.filled f c) in
        record {
          rounds = λ b e. y.rounds;
          filled = z;
          starts = reached offset (q ∷ g) z _ (λ x. Start s g x ⊎ MarkedBy s q x) go;
        }
      where
        go : (x : ℕ) → Start s g x ⊎ MarkedBy s q x → Boundary E l (x + offset)
        go x (inl d) = w.starts x d
        go x (inr d) = (h q refl tt).names x d

    fresh_kept : Kept fresh
    fresh_kept = record { rounds = λ b e. absurd (none-ne-some b e); filled = λ f c. tt; starts = λ p e. absurd e }

    kept : (ts : List Step) (g : Log) → AsSent s flows l offset g ts → Kept g → Kept (goes_on s flows g ts)
    kept [] g a w = w
    kept (x ∷ xs) g a w =
        kept xs _ a.1
        (logged_kept g (read s flows g x) (said x.answer)
        (λ q e v.
        let (y, p, i, o, arrives) = a.0 v in
        let z : 0 < E = omega (arith, peer_size t s l k) in
        let base = base_for (base_of s g) (esi_of x.call) in
        let (rounds, near, h) = arrived_satisfied s flows z all offset g x q e y p i (wrote y p o) w.rounds arrives in
        record {
          rounds = rounds;
          satisfied = λ f c. written_satisfied s flows z all offset rounds base y p (wrote y p o) near q h 0 (omega arith) f c;
          names = sent-names y p o base rounds near q h;
        }) w)

    as_written : (ts : List Step) (g : Log) → AsSent s flows l offset g ts → AsWritten s flows all offset g ts
    as_written [] g a = tt
    as_written (x ∷ xs) g a = ((λ v. let (y, p, i, o, arrives) = a.0 v in (y, p, i, wrote y p o, arrives)), as_written xs _ a.1)

pub start_gives : StartGives
start_gives = gives

pub sent-written : SentWritten
sent-written t s l k flows offset ts a = as_written t s l k flows offset ts fresh a

pub sent-starts : SentStarts
sent-starts t s l k flows offset ts a = (kept t s l k flows offset ts fresh a (fresh_kept t s l k flows offset)).starts

pub sent-handed : SentHanded
sent-handed t s l k flows offset ts a b p flow adu start h =
    let w = kept t s l k flows offset ts fresh a (fresh_kept t s l k flows offset) in
    held_begins t s l k offset (history s flows ts) w.filled p (w.starts p start) b flow adu h
