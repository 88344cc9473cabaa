-- Reading a packet: a check that fails, and all that pass, by what the history reads of it at every base that the header is of.
-- Laws:
--   a check fails: failed_unopened, failed, failed_short, failed_stopped, failed_out
--   all pass: reading_at, passed
use Rattle.std.specs.Prelude.{◌≡◌, ◌≤◌, ◌+◌, ◌<◌, ◌%◌, ◌^◌, ◌≢◌, Ok, Err}
use Rattle.words.specs.Words.{arith, ℕ, List, refl, ◌∙◌, sym, ap, Some, None, subst, lt-leb, none-ne-some}
use Rattle.wire.specs.declared.Setting.{Setting}
use Rattle.wire.specs.declared.Refusal.{Refusal}
use Rattle.wire.specs.Numbers.{number_of}
use Rattle.wire.specs.Flows.{flows_in}
use Rattle.holding.specs.declared.Header.{Header}
use Rattle.holding.specs.Header.{header_in}
use Rattle.holding.specs.Layout.{header_from, header_of, Holds}
use Rattle.history.specs.History.{Located, side_of, from_side, Call, esi_of, Reading, fails, located, check, working_size, reading}
use Rattle.history.specs.Model.{Joined, State, found_by}
use Rattle.admission.specs.declared.packet.Location.{Location}
use Rattle.admission.specs.declared.packet.Passed.{Passed}
use Rattle.admission.specs.Joining.{header_for}
use Rattle.admission.specs.Steps.{location_found}
use Rattle.admission.specs.Reading.{Failed, Passes}
use Rattle.holding.proofs.Headers.{setting_held}
use Rattle.admission.proofs.Joining.{found-header}
use Rattle.admission.proofs.Locating.{distance, found_at, at_side, out_side, out_other}
use Rattle.wire.specs.declared.Refusal.TheVariants as refusals

-- What is read at every base with the ESI of a header is read of a receiver that has that header.
pub reads_found : (c : Call) (flows : List ℕ) (room : ℕ) (g : Header) (x : ℕ → Reading)
    → ((b : ℕ) → b % 2 ^ 32 ≡ g.esi.0 → reading g.setting flows b room c ≡ x b)
    → (s : Setting) (j : Joined s) → g ≡ header_from s j → reading s flows j.base room c ≡ x j.base
reads_found c flows room g x f s j q =
    subst (λ (y : Header). reading y.setting flows j.base room c ≡ x j.base) q (f j.base (sym (ap (λ (y : Header). y.esi.0) q)))

module _ (c : Call) (m : List ℕ) (room : ℕ) where
  pub failed_unopened : header_in m ≡ None → Failed c m room refusals.Unopened
  failed_unopened e = record {
    unopened = λ _. refl;
    opened = λ h q. absurd (none-ne-some h (sym e ∙ q));
    told = λ s t k. absurd (none-ne-some (header_of s t) (sym e ∙ k.header));
  }

  module _ (h : Header) (has : header_in m ≡ Some h) where
    -- Whatever state the memory holds.
    failed_by : (x : Refusal) → number_of x ≢ 3
        → ((s : Setting) (t : State s) → Holds m s t → reading s (flows_in m) (found_by s t (esi_of c)).base room c ≡ fails (number_of x)) → Failed c m room x
    failed_by x other says = record { unopened = λ q. absurd (none-ne-some h (sym q ∙ has)); opened = λ _ _. other; told = says }

    -- Wherever the base is.
    pub failed : (x : Refusal) → number_of x ≢ 3 → ((b : ℕ) → reading h.setting (flows_in m) b room c ≡ fails (number_of x)) → Failed c m room x
    failed x other says =
        failed_by x other
        (λ s t k. subst (λ y. (b : ℕ) → reading y (flows_in m) b room c ≡ fails (number_of x)) (setting_held m h s t has k) says (found_by s t (esi_of c)).base)

    -- Working memory is too short.
    pub failed_short : room < working_size h.setting → Failed c m room refusals.Short
    unfolding reading check
    failed_short l = failed refusals.Short (λ z. omega arith) (λ b. rw (lt-leb (working_size h.setting) room l))

    -- The header for the packet.
    abbrev g : Header
    g = header_for h (esi_of c)

    -- By the place of the base.
    pub failed_stopped : (x : Refusal) → number_of x ≢ 3 → ((b : ℕ) → b % 2 ^ 32 ≡ g.esi.0 → reading h.setting (flows_in m) b room c ≡ fails (number_of x))
        → Failed c m room x
    failed_stopped x other says =
        failed_by x other
        (λ s t k. reads_found c (flows_in m) room g (λ b. fails (number_of x)) says s (found_by s t (esi_of c)) (found-header m h s t (esi_of c) has k))

    -- The checks before the packet's place have passed.
    module _ (n : ℕ) (next : ℕ → ℕ → Reading) (says : (b : ℕ) → reading h.setting (flows_in m) b room c ≡ from_side n (side_of b (esi_of c)) (next b)) where
      pub failed_out : (x : Refusal) → Err x ≡ location_found g (esi_of c) n → Failed c m room x
      failed_out x q = failed_stopped x (out_other g (esi_of c) n x q) (λ b esi. says b ∙ out_side g (esi_of c) n b esi (next b) x q)

      pub reading_at : (at : Location) → Ok at ≡ location_found g (esi_of c) n → (b : ℕ) → b % 2 ^ 32 ≡ g.esi.0
          → reading h.setting (flows_in m) b room c ≡ next b (distance g (esi_of c) n)
      reading_at at q b esi = says b ∙ at_side g (esi_of c) n b esi (next b) at (found_at g (esi_of c) n at q)

    -- All checks have passed.
    pub passed : working_size h.setting ≤ room → (p : Passed) → p.header ≡ g → Ok p.location ≡ location_found g (esi_of c) p.named
        → 0 < p.named → p.named ≤ h.setting.width → (q : ℕ → Located)
        → ((b : ℕ) → b % 2 ^ 32 ≡ g.esi.0 → reading h.setting (flows_in m) b room c ≡ located (q (b + distance g (esi_of c) p.named)))
        → Passes c m room h q (distance g (esi_of c) p.named) p
    passed lent p is found names fits q says =
        let f = found_at g (esi_of c) p.named p.location found in
        record { has = has; lent = lent; header = is; location = f.at; near = f.fits; names = names; fits = fits; told = says }
