-- An encoder's openings and calls are judged as the claims say: by the promises, by what its memory holds, and by the code of crate `interpolation`.
-- Index
--   is_symbol: the combination is the value of the polynomial
--   repairs_judged, encoder_judged
--   opening_judged
use Rattle.std.specs.Prelude.{◌≡◌, ◌≤◌, ◌+◌, ◌<◌, ◌∷◌, ◌++◌, Result}
use Rattle.words.specs.Words.{arith, ℕ, List, length, refl, ◌∙◌, ap, [], get_or, subst, true, leb, le-leb, lt-leb}
use Rattle.wire.specs.declared.Refusal.TheVariants as refusals
use Rattle.wire.specs.Answers.{said}
use Rattle.rows.specs.Combination.{dot, coefficient, combination}
use Rattle.rows.proofs.Dot.{dot_same}
use Rattle.rows.proofs.Combinations.{length-combination, get_or-combination, get_d_tabulate}
use Rattle.history.proofs.Says.{Wholes}
use Rattle.interpolation.specs.Lagrange.{lagrange, lagranges, encoded}
use Rattle.interpolation.specs.Code as codes
use Rattle.interpolation.proofs.Standard.{standard, encoded-is}
use Rattle.blocks.specs.declared.Block.{Block}
use Rattle.blocks.specs.Block.{Valid}
use Rattle.blocks.specs.Identifiers.{repair_packet}
use Rattle.blocks.proofs.Values.{block_from, bad_size, bad_values, named_good}
use Rattle.block_encoder.specs.State.{Encoder, symbol_of, Holds}
use Rattle.block_encoder.specs.Calls.{refused, opening, repairing}
use Rattle.block_encoder.specs.Promises.{Follows, Makes}
use Rattle.block_encoder.proofs.Promising.{opening_bad, opening_short, opening_done}
use Rattle.block_encoder.proofs.Promising.{repairing_short, repairing_low, repairing_high, repairing_early, repairing_done}
use Rattle.encoder_claims.specs.Run.{EncoderCall, added, repaired, Calls, memory_after, symbols_of}
use Rattle.encoder_claims.specs.Judged.{bytes_at, IsSymbol, RepairEsi, RepairJudged, CallJudged}
use Rattle.encoder_claims.specs.Judged.{OpeningIsJudged, EncoderJudged}
use Rattle.encoder_claims.proofs.Running.{below, holding, ran, run_holds, run_valid, wholes_at, calls-whole}
use Rattle.encoder_claims.proofs.Adding.{refuses, writes, adds_judged}
use Rattle.wire.specs.declared.Refusal.{Refusal}

module _ (E k total number : ℕ) (v : Valid (block_from E k total number)) (xs : List (List ℕ)) where
  abbrev block : Block
  block = block_from E k total number

  abbrev encoder : Encoder
  encoder = holding E k total number xs

  -- ---- Making repair

  -- The combination is, in each byte, the value of the polynomial.
  module _ (whole : Wholes E xs) (count : length xs ≡ k) where
    few : k ≤ 255
    few = let w = v.values in omega (arith, w.1, w.2)

    small : (b : ℕ) → codes.Block k (bytes_at xs b)
    small b i h = wholes_at E xs whole i b

    byte : (esi b : ℕ) → b < E → get_or (combination E (lagranges k esi) xs) b 0 ≡ encoded k (bytes_at xs b) esi
    unfolding encoded lagranges
    byte esi b h =
        get_or-combination E (lagranges k esi) xs b h ∙ ap (dot (coefficient (lagranges k esi)) (bytes_at xs b)) count
        ∙ dot_same _ _ _ _ k (λ i g. get_d_tabulate (λ i. lagrange k i esi) k i g) (λ i g. refl)

    is_symbol : (esi : ℕ) → IsSymbol E k total number xs esi (symbol_of encoder esi)
    unfolding symbol_of
    is_symbol esi = record {
      sized = length-combination E (lagranges k esi) xs;
      polynomial = λ b h. let s = standard k few (bytes_at xs b) (small b) in (s.polynomial, s.through);
      valued = λ b h q t. byte esi b h ∙ encoded-is k few (bytes_at xs b) (small b) q t esi;
    }

  repairs_judged : (esi : ℕ) (m out : List ℕ) (r : Result ℕ Refusal) (out' : List ℕ) → Wholes E xs → Holds m encoder → Makes esi m out r out'
      → RepairJudged E k total number xs m esi out (said r) out'
  unfolding repair_packet
  repairs_judged esi m out r out' whole h p =
      let o = repairing encoder esi (length out) in
      let f = p.follows encoder h in
      record {
        short = λ l. refuses 2 o m m out out' r (repairing_short esi (length out) encoder block refl (lt-leb (E + 6) (length out) l)) f;
        stray = λ l n. refuses 18 o m m out out' r (outside l n) f;
        early = λ l e n. refuses 7 o m m out out' r (repairing_early esi (length out) encoder block refl (room l) e.0 e.1 (length xs) refl n) f;
        makes = λ l e n.
            let d = subst (λ x. Follows x m out r m out') (repairing_done esi (length out) encoder block refl (room l) e.0 e.1 (length xs) refl n) f in
            (symbol_of encoder esi, is_symbol whole (omega (arith, h.few)) esi, writes _ _ m m out out' r d);
      }
    where
      room : E + 6 ≤ length out → leb (E + 6) (length out) ≡ true
      room = le-leb (E + 6) (length out)

      outside : E + 6 ≤ length out → ¬ RepairEsi E k total number esi → repairing encoder esi (length out) ≡ refused 18
      outside l n =
          below esi k (λ a. repairing_low esi (length out) encoder block refl (room l) a)
          (λ a. below esi total (λ b. absurd (n (a, b))) (λ b. repairing_high esi (length out) encoder block refl (room l) a b))

-- ---- Every list of calls

call_judged : (E k total number : ℕ) → Valid (block_from E k total number) → (xs : List (List ℕ)) → Wholes E xs
    → (m : List ℕ) (c : EncoderCall) (l : List EncoderCall) → Holds m (holding E k total number xs) → Calls m (c ∷ l) → CallJudged E k total number xs m c
call_judged E k total number v xs w m (added flow adu out r m' out') l h (f, b, p, c) = adds_judged E k total number v xs flow adu m out r m' out' h p
call_judged E k total number v xs w m (repaired esi out r out') l h (p, c) = repairs_judged E k total number v xs esi m out r out' w h p

pub encoder_judged : EncoderJudged
encoder_judged E k total number l r before c after e =
    let d : Calls r.after (before ++ (c ∷ after)) = rw e at r.calls in
    let v = run_valid E k total number l r in
    let (h, rest) = ran E k total number [] r.after before (c ∷ after) (run_holds E k total number l r) d in
    call_judged E k total number v (symbols_of E before) (calls-whole E (omega (arith, v.size_least)) r.after before (c ∷ after) d)
    (memory_after r.after before) c after h rest

-- ---- Opening

pub opening_judged : OpeningIsJudged
opening_judged E k total number m r m' f =
    let o = opening E k total number (length m) in
    record {
      size = λ n.
          let x = refuses 1 o m m' [] [] r (opening_bad E k total number m refusals.Values (bad_size E k total number n)) f in
          (x.answer, x.memory);
      block = λ s n.
          let x = refuses 18 o m m' [] [] r (opening_bad E k total number m refusals.Block (bad_values E k total number s.0 s.1 n)) f in
          (x.answer, x.memory);
      short = λ s n l.
          let x = refuses 2 o m m' [] [] r (opening_short E k total number m _ (named_good E k total number s.0 s.1 n) l) f in
          (x.answer, x.memory);
      opens = λ s n l.
          let g = subst (λ x. Follows x m [] r m' []) (opening_done E k total number m _ (named_good E k total number s.0 s.1 n) l) f in
          (g.answer, g.memory);
    }
