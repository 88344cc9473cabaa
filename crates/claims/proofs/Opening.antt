-- Every opening of a receiver answers as its values and the memory ask.
use Rattle.std.specs.Prelude.{◌≡◌, ◌≤◌, ◌<◌}
use Rattle.words.specs.Words.{arith, ℕ, length, ◌∙◌, ap, lt-ltb, le-ltb}
use Rattle.wire.specs.declared.Setting.{Setting}
use Rattle.wire.specs.Settings.{scheme_of}
use Rattle.wire.specs.Answers.{refusal, said}
use Rattle.wire.proofs.Opening.{allowed-setting, setting-none}
use Rattle.history.specs.History.{memory_size}
use Rattle.receiver.specs.Promises.{Layout, opening}
use Rattle.claims.specs.Opening.{EveryOpening}

pub every_opening : (L : Layout) → EveryOpening L
every_opening L scheme E w flows m m' a p =
    let s : Setting = record { scheme = scheme_of scheme; size = E; width = w } in
    record {
      values = λ n. let e = p.answer ∙ ap (λ o. opening o (length m)) (setting-none scheme E w n) in (e, p.refused 1 e);
      short = λ k l.
          let h : length m < memory_size s = omega (arith, l) in
          let e : said a ≡ refusal 2 = p.answer ∙ rw (allowed-setting scheme E w k, lt-ltb (length m) (memory_size s) h) in
          (e, p.refused 2 e);
      opens = λ k l.
          let h : memory_size s ≤ length m = omega (arith, l) in
          (p.answer ∙ rw (allowed-setting scheme E w k, le-ltb (length m) (memory_size s) h), p.contained s (allowed-setting scheme E w k));
    }
