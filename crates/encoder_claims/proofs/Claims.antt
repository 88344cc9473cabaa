-- All claims of the encoder hold.
use Rattle.std.specs.Prelude.{◌≡◌, ◌+◌, ◌-◌, ◌∷◌, ◌*◌, ◌++◌, Result}
use Rattle.words.specs.Words.{arith, ℕ, List, length, ◌∙◌, ap, [], None, take, take_all, one-mul, length-append, length-replicate}
use Rattle.memory.specs.Number.{bytes}
use Rattle.wire.specs.Packets.{zeros, chunks, adui, source_symbols}
use Rattle.wire.specs.Answers.{said}
use Rattle.blocks.specs.Stored.{block_in}
use Rattle.blocks.proofs.Stored.{zeros-none, one_kind, short_none}
use Rattle.blocks.proofs.Values.{block_from}
use Rattle.block_encoder.specs.Promises.{RefusedWith}
use Rattle.blocks.proofs.Symbols as symbols
use Rattle.encoder_claims.specs.Run.{memory_after}
use Rattle.encoder_claims.specs.Judged.{Refuses}
use Rattle.encoder_claims.specs.Claims.{OneSymbol, SaysThree, Three, EncoderClaims}
use Rattle.encoder_claims.proofs.Running.{run_held}
use Rattle.encoder_claims.proofs.Judging.{opening_judged, encoder_judged}
use Rattle.encoder_claims.proofs.Choice.{no_choice}
use Rattle.encoder_claims.proofs.Runs.{runs_exist}
use Rattle.wire.specs.declared.Refusal.{Refusal}

-- Memory that has no header of an encoder.
refuses_three : (m out : List ℕ) (r : Result ℕ Refusal) (m' out' : List ℕ) → RefusedWith 3 m out r m' out' → Refuses 3 (said r) m m' out out'
refuses_three m out r m' out' f = record { answer = f.answer; memory = f.memory; output = f.output }

says_three : (m : List ℕ) → block_in 3 m ≡ None → SaysThree m
says_three m e = record {
  adds = λ flow adu out r m' out' p. refuses_three m out r m' out' (p.unopened e);
  makes = λ esi out r out' p. refuses_three m out r m out' (p.unopened e);
}

three : Three
three = record {
  zero = λ n. says_three _ (zeros-none 3 n (omega arith));
  other = λ kind s m h e. says_three m (one_kind kind 3 m s h e);
  cut = λ E k total number l r n h.
      says_three _ (short_none 3 (memory_after r.after l) (block_from E k total number) n (run_held E k total number l r).header h);
}

one_symbol : OneSymbol
unfolding source_symbols adui
one_symbol flow adu E h =
    let padded : ℕ → List ℕ = λ n. flow ∷ bytes 2 (length adu) ++ (adu ++ zeros (n - (3 + length adu))) in
    let n : length (padded E) ≡ E = simp (length-append, length-replicate) (omega arith) in
    ap (λ c. chunks c E (padded (c * E))) (symbols.one_symbol E (length adu) h)
    ∙ ap (λ (x : List ℕ). x ∷ []) (ap (λ c. take E (padded c)) (one-mul E) ∙ take_all E (padded E) (omega (arith, n)))

pub encoder_claims : EncoderClaims
encoder_claims = record {
  opening = opening_judged;
  judged = encoder_judged;
  one_symbol = one_symbol;
  no_choice = no_choice;
  runs_exist = runs_exist;
  three = three;
}
