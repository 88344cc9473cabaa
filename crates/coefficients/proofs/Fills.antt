-- How a list, and the lists of a packet, come to stand in the output: the invariants of the two loops, and what a caller learns from an answer.
-- Index
--   Partly: the first i bytes of out are the first i coefficients
--   partly_none, partly_more
--   next_draws: no more than 17 draws for each
--   partly_refused, partly_draws, partly_all, fills_done, fills_refused
--   exit_err: what the exit of a `?` returns
--   some_from, none_from: what `ok_or` was given, by its answer
--   fills_ones: all ones, where GF(2) has the density threshold 15
--   fills_was_done, fills_was_refused
--   Listed: after i lists
--   listed-none, lent_length, listed_more, lists_refused
--   listed_draws: the draws so far are no more than those of a whole packet
--   lists_done, lists_were_done, lists_were_refused, lists_refusal
--   list_at: list i, where the lists stand
--   lists_cut: the lists, cut out of the bytes where they stand one after the other
use Rattle.std.specs.Prelude.{◌≡◌, ◌≤◌, ◌+◌, ◌<◌, ◌-◌, ◌∷◌, ◌*◌, ◌++◌, Option, Some, None, is_some, option_to_list, Result, Ok, Err}
use Rattle.words.specs.Words.{arith, ℕ, List, length, refl, ◌∙◌, sym, ap, [], suc, true, zero, get_or, false, Bool, drop}
use Rattle.words.specs.Words.{take, add-zero, add-one, length-append, not-suc-le-zero, zero-add, le_of_suc-le-suc, zero-mul, append_assoc, set}
use Rattle.words.specs.Words.{append-nil, length-take, suc-mul, take_all, length-replicate, take-append-drop, drop-drop, take_at}
use native.Mathlib.Nat.{le_of_eq}
use Rattle.std.proofs.lemmas.List.{ext_get_or, get_or-replicate}
use lib.Seq.{take-suc-set, drop_at}
use Rattle.std.specs.Option.{ok_or}
use Rattle.std.specs.Result.{IsErrAnd}
use Rattle.tinymt.specs.Generator.{start_of}
use Rattle.memory.specs.Part.{part, splice}
use Rattle.memory.proofs.Parts.{cut, put, length_part, length-splice, past-splice, row_fits}
use Rattle.wire.specs.Numbers.{key_after}
use Rattle.wire.specs.Packets.{joined, chunks}
use Rattle.wire.proofs.Settings.{both}
use Rattle.wire.specs.declared.Scheme.{Scheme}
use Rattle.wire.specs.declared.Scheme.TheVariants.{Gf2}
use Rattle.coefficients.specs.Coefficients.{coefficient_of, Coefficient, Coefficients, coefficients_of, keys, lists_of, all_ok, draws_of}
use Rattle.coefficients.specs.Promises.{filled_of, Fills, FillsLists}
use Rattle.coefficients.proofs.Lists.{extend_ok, list_more, list_length, refused_stays, ones, length-keys, coefficient_draws_most, list_draws_most}
use Rattle.coefficients.proofs.Lists.{packet_draws_most}
use Rattle.wire.specs.declared.Refusal.{Refusal}
use Rattle.wire.specs.declared.Refusal.TheVariants as refusals

-- the first i bytes of out are the first i coefficients, none was refused, they took so many draws, and state are the words after them
pub record Partly (scheme : Scheme) (key dt : ℕ) (out state : List ℕ) (drawn i : ℕ) : Type 0 where
  pub list : take i out ≡ (coefficients_of scheme key dt i).list
  pub ok : (coefficients_of scheme key dt i).ok ≡ true
  pub draws : drawn ≡ (coefficients_of scheme key dt i).draws
  pub words : state ≡ (coefficients_of scheme key dt i).state

pub partly_none : (scheme : Scheme) (key dt : ℕ) (out : List ℕ) {state : List ℕ} → state ≡ start_of key → Partly scheme key dt out state 0 0
unfolding coefficients_of
partly_none scheme key dt out e = record { list = refl; ok = refl; draws = refl; words = e }

module _ {scheme : Scheme} {key dt : ℕ} {out state : List ℕ} {drawn i : ℕ} (f : Partly scheme key dt out state drawn i) where
  module _ {c : Coefficient} (ec : c ≡ coefficient_of scheme dt state) where
    next : coefficients_of scheme key dt (i + 1) ≡ record {
      list = take i out ++ option_to_list c.value;
      ok = is_some c.value;
      draws = drawn + c.draws;
      state = c.state;
    }
    next = rw (list_more scheme key dt i, f.list, f.draws, extend_ok scheme dt (coefficients_of scheme key dt i) f.ok (rw f.words at ec))

    pub partly_more : {v : ℕ} → i < length out → c.value ≡ Some v → Partly scheme key dt (set out i v) c.state (drawn + c.draws) (i + 1)
    partly_more h e = record { list = rw (next, e, add-one, take-suc-set); ok = rw (next, e); draws = rw next; words = rw next }

    -- no more than 17 draws for each
    pub next_draws : c.draws ≤ 17
    next_draws = rw ec (coefficient_draws_most scheme dt state)

    pub partly_refused : (n : ℕ) → i < n → c.value ≡ None → (coefficients_of scheme key dt n).ok ≡ false
    partly_refused n h e = refused_stays scheme key dt (i + 1) n (rw add-one h) (rw (next, e))

  pub partly_draws : drawn ≤ 17 * i
  partly_draws = rw f.draws (list_draws_most scheme key dt i)

  pub partly_all : i ≡ length out → out ≡ (coefficients_of scheme key dt i).list
  partly_all e = sym (take_all i out (le_of_eq (sym e))) ∙ f.list

-- ---- one list

-- what the exit of a `?` returns
pub exit_err : {r : Result ℕ Refusal} {w : Refusal} → IsErrAnd r (λ y. y ≡ w) → r ≡ Err w
exit_err {r = Ok x} h = absurd h
exit_err {r = Err y} h = rw h

-- what `ok_or` was given, by its answer
pub some_from : {o : Option ℕ} {r : Result ℕ Refusal} {v : ℕ} (e : Refusal) → r ≡ ok_or o e → r ≡ Ok v → o ≡ Some v
some_from {o = None} e f g = cc
some_from {o = Some v} e f g = cc

pub none_from : {o : Option ℕ} {r : Result ℕ Refusal} {f : Refusal} (e : Refusal) → r ≡ ok_or o e → r ≡ Err f → (o ≡ None) × (f ≡ e)
none_from {o = None} e g h = (refl, cc)
none_from {o = Some v} e g h = (cc, cc)

pub fills_done : {l : Coefficients} {out out' : List ℕ} {d : ℕ} → l.ok ≡ true → d ≡ l.draws → length out' ≡ length out → out' ≡ l.list
    → Fills l out (Ok d) out'
fills_done e k s f = record { answer = rw (e, k); size = s; bytes = λ _ _. f }

pub fills_refused : {l : Coefficients} {out out' : List ℕ} → l.ok ≡ false → length out' ≡ length out → Fills l out (Err refusals.Draws) out'
fills_refused e s = record { answer = rw e; size = s; bytes = λ d f. cc }

done_true : (b : Bool) (d n : ℕ) → Ok d ≡ filled_of b n → (b ≡ true) × (d ≡ n)
done_true true d n h = (refl, cc)
done_true false d n h = (cc, cc)

refused_false : (b : Bool) (n : ℕ) {w : Refusal} → Err w ≡ filled_of b n → (b ≡ false) × (w ≡ refusals.Draws)
refused_false true n h = (cc, cc)
refused_false false n h = (refl, cc)

-- all ones, where GF(2) has the density threshold 15
pub fills_ones : (scheme : Scheme) (key dt : ℕ) (out out' : List ℕ) → scheme ≡ Gf2 → dt ≡ 15 → length out' ≡ length out
    → ((i : ℕ) → i < length out → get_or out' i 0 ≡ 1) → Fills (coefficients_of scheme key dt (length out)) out (Ok 0) out'
fills_ones scheme key dt out out' q d s e = rw (q, d, ones key (length out)) (record {
  answer = refl;
  size = s;
  bytes = λ _ _.
      ext_get_or 0 out' _ (s ∙ sym (length-replicate (length out) 1))
      (λ i h. e i (rw s at h) ∙ sym (get_or-replicate (length out) i 1 0 (rw s at h)));
})

module _ {l : Coefficients} {out : List ℕ} {r : Result ℕ Refusal} {out' : List ℕ} (f : Fills l out r out') where
  pub fills_was_done : {d : ℕ} → r ≡ Ok d → (l.ok ≡ true) × (d ≡ l.draws)
  fills_was_done e = done_true l.ok _ _ (sym e ∙ f.answer)

  pub fills_was_refused : {w : Refusal} → r ≡ Err w → (l.ok ≡ false) × (w ≡ refusals.Draws)
  fills_was_refused e = refused_false l.ok _ (sym e ∙ f.answer)

-- ---- the lists of a packet

-- after i lists: those still to come, from the key on, and the bytes and draws before them give all that was asked; the bytes past them are as they
-- were
pub record Listed (scheme : Scheme) (dt n first count : ℕ) (out₀ out : List ℕ) (key drawn i : ℕ) : Type 0 where
  pub size : length out ≡ length out₀
  pub ok : all_ok scheme dt n (keys first count) ≡ all_ok scheme dt n (keys key (count - i))
  pub draws : draws_of scheme dt n (keys first count) ≡ drawn + draws_of scheme dt n (keys key (count - i))
  pub bytes : joined (lists_of scheme dt n (keys first count)) ≡ take (i * n) out ++ joined (lists_of scheme dt n (keys key (count - i)))
  pub past : drop (i * n) out ≡ drop (i * n) out₀

pub listed-none : (scheme : Scheme) (dt n first count : ℕ) (out : List ℕ) → Listed scheme dt n first count out out first 0 0
listed-none scheme dt n first count out =
    let e : count - 0 ≡ count = omega arith in
    record { size = refl; ok = rw e; draws = rw (e, zero-add); bytes = rw (e, zero-mul); past = refl }

module _ {scheme : Scheme} {dt n first count : ℕ} {out₀ out : List ℕ} {key drawn i : ℕ} (room : count * n ≤ length out₀) (below : i < count)
    (l : Listed scheme dt n first count out₀ out key drawn i) where
  -- the bytes that are lent for list i
  abbrev lent : List ℕ
  lent = take (i * n + n - i * n) (drop (i * n) out)

  fits : i * n + n ≤ length out
  fits = omega (arith, row_fits count n i below, l.size)

  pub lent_length : length lent ≡ n
  lent_length = rw (cut (i * n) n out) (length_part (i * n) n out fits)

  left : count - i ≡ suc (count - (i + 1))
  left = omega arith

  module _ {r : Result ℕ Refusal} {x : List ℕ} (f : Fills (coefficients_of scheme key dt (length lent)) lent r x) where
    lengthed : length x ≡ n
    lengthed = f.size ∙ lent_length

    spliced : take (i * n) out ++ (x ++ drop (i * n + n - i * n) (drop (i * n) out)) ≡ splice (i * n) x out
    spliced = put (i * n) n x out fits f.size

    resized : length (splice (i * n) x out) ≡ length out₀
    resized = length-splice (i * n) x out (omega (arith, fits, lengthed)) ∙ l.size

    -- from any place past list i on
    passed : (k : ℕ) → i * n + n ≤ k → drop k (splice (i * n) x out) ≡ drop k out₀
    passed k h =
        let e : k ≡ i * n + (k - i * n) = omega arith in
        past-splice k (i * n) x out (omega (arith, lengthed)) (omega (arith, fits))
        ∙ rw e (sym (drop-drop (k - i * n) (i * n) out) ∙ ap (drop (k - i * n)) l.past ∙ drop-drop (k - i * n) (i * n) out₀)

    pub listed_more : {more : ℕ} → r ≡ Ok more
        → Listed scheme dt n first count out₀ (take (i * n) out ++ (x ++ drop (i * n + n - i * n) (drop (i * n) out))) (key_after key) (drawn + more) (i + 1)
    listed_more d =
        let (k, z) = rw lent_length at (fills_was_done f d) in
        let e : x ≡ (coefficients_of scheme key dt n).list = rw lent_length at (f.bytes _ d) in
        let m : (i + 1) * n ≡ i * n + n = rw add-one (suc-mul i n) in
        let o = rw (left, k) at l.ok in
        let b = rw (left, ← e, ← append_assoc (take (i * n) out) x) at l.bytes in
        let g : length (take (i * n) out ++ x) ≡ i * n + n = simp (length-append, length-take) (omega (arith, fits, lengthed)) in
        let h : take (i * n + n) (take (i * n) out ++ (x ++ drop (i * n + n - i * n) (drop (i * n) out))) ≡ take (i * n) out ++ x =
        rw (← append_assoc (take (i * n) out) x) (take_at (take (i * n) out ++ x) _ (i * n + n) g) in
        let t = rw left at l.draws in
        record {
          size = rw spliced resized;
          ok = o;
          draws = omega (arith, t, z);
          bytes = rw (m, h) b;
          past = rw (m, spliced) (passed (i * n + n) (omega arith));
        }

    pub lists_refused : {w : Refusal} → r ≡ Err w
        → FillsLists scheme dt n (keys first count) out₀ (Err w) (take (i * n) out ++ (x ++ drop (i * n + n - i * n) (drop (i * n) out)))
    lists_refused d =
        let (k, z) = rw lent_length at (fills_was_refused f d) in
        record {
          answer = rw (z, l.ok, left, k);
          size = rw spliced resized;
          bytes = λ d e. cc;
          past = rw (length-keys first count, spliced) (passed (count * n) (row_fits count n i below));
        }

-- the draws so far are no more than those of a whole packet
pub listed_draws : {scheme : Scheme} {dt n first count : ℕ} {out₀ out : List ℕ} {key drawn i : ℕ} → n ≤ 255 → count ≤ 16
    → Listed scheme dt n first count out₀ out key drawn i → drawn ≤ 69360
listed_draws {scheme = scheme} {dt = dt} {n = n} {first = first} {count = count} h k l =
    omega (arith, l.draws, packet_draws_most scheme dt n h (keys first count) (rw (length-keys first count) k))

pub lists_done : {scheme : Scheme} {dt n first count : ℕ} {out₀ out : List ℕ} {key drawn : ℕ} → Listed scheme dt n first count out₀ out key drawn count
    → FillsLists scheme dt n (keys first count) out₀ (Ok drawn) out
lists_done {n = n} {first = first} {count = count} {out = out} l =
    let z : count - count ≡ 0 = omega arith in
    let b = rw (z, append-nil) at l.bytes in
    record {
      answer = rw (l.ok, l.draws, z, add-zero);
      size = l.size;
      bytes = λ d e. rw (length-keys first count, b, ← l.past) (sym (take-append-drop (count * n) out));
      past = rw (length-keys first count) l.past;
    }

-- what a caller learns from the answer
module _ {scheme : Scheme} {dt n : ℕ} {ks out : List ℕ} {r : Result ℕ Refusal} {out' : List ℕ} (f : FillsLists scheme dt n ks out r out') where
  pub lists_were_done : {d : ℕ} → r ≡ Ok d → (all_ok scheme dt n ks ≡ true) × (d ≡ draws_of scheme dt n ks)
  lists_were_done e = done_true (all_ok scheme dt n ks) _ _ (sym e ∙ f.answer)

  pub lists_were_refused : {w : Refusal} → r ≡ Err w → all_ok scheme dt n ks ≡ false
  lists_were_refused e = (refused_false (all_ok scheme dt n ks) _ (sym e ∙ f.answer)).0

  -- with refusal 10
  pub lists_refusal : {w : Refusal} → r ≡ Err w → w ≡ refusals.Draws
  lists_refusal e = (refused_false (all_ok scheme dt n ks) _ (sym e ∙ f.answer)).1

-- list i, where the lists stand
pub list_at : (scheme : Scheme) (dt n : ℕ) (ks rest : List ℕ) (i : ℕ) → all_ok scheme dt n ks ≡ true → i < length ks
    → part (i * n) n (joined (lists_of scheme dt n ks) ++ rest) ≡ (coefficients_of scheme (get_or ks i 0) dt n).list
unfolding part
list_at scheme dt n [] rest i e h = absurd (not-suc-le-zero h)
list_at scheme dt n (key ∷ ks) rest zero e h =
    let k = both (coefficients_of scheme key dt n).ok _ e in
    rw (zero-mul, append_assoc (coefficients_of scheme key dt n).list) (take_at (coefficients_of scheme key dt n).list _ n (list_length scheme key dt n k.0))
list_at scheme dt n (key ∷ ks) rest (suc i) e h =
    let k = both (coefficients_of scheme key dt n).ok _ e in
    let m : suc i * n ≡ n + i * n = omega (arith, suc-mul i n) in
    let d = drop_at (coefficients_of scheme key dt n).list (joined (lists_of scheme dt n ks) ++ rest) n (list_length scheme key dt n k.0) in
    rw (m, ← drop-drop (i * n) n, append_assoc (coefficients_of scheme key dt n).list, d)
    (list_at scheme dt n ks rest i k.1 (le_of_suc-le-suc h))

-- the lists, cut out of the bytes where they stand one after the other
pub lists_cut : (scheme : Scheme) (dt n key count : ℕ) (rest : List ℕ) → all_ok scheme dt n (keys key count) ≡ true
    → chunks count n (joined (lists_of scheme dt n (keys key count)) ++ rest) ≡ lists_of scheme dt n (keys key count)
lists_cut scheme dt n key zero rest e = refl
lists_cut scheme dt n key (suc count) rest e =
    let k = both (coefficients_of scheme key dt n).ok _ e in
    let x = (coefficients_of scheme key dt n).list in
    let y = joined (lists_of scheme dt n (keys (key_after key) count)) ++ rest in
    let l = list_length scheme key dt n k.0 in
    rw (append_assoc x, take_at x y n l, drop_at x y n l)
    (ap (λ (ls : List (List ℕ)). x ∷ ls) (lists_cut scheme dt n (key_after key) count rest k.1))
