-- Each packet call answers the number of the first check that fails, and leaves the base where its packet's bytes say.
use Rattle.words.specs.Words.{ap, sym, refl, ◌∙◌, [], subst, inl, inr}
use Rattle.wire.specs.declared.Setting.{Setting}
use Rattle.wire.specs.Answers.{Said, value, refusal, said}
use Rattle.wire.proofs.Settings.{setting-names}
use Rattle.history.specs.History.{Log, fresh, base_for, base_of, esi_of, Reading, fails, located, Judged}
use Rattle.history.specs.Rising.{BaseAfter}
use Rattle.history.proofs.Laws.{history_laws}
use Rattle.receiver.specs.Promises.{Layout}
use Rattle.claims.specs.Run.{read, history}
use Rattle.claims.specs.Checking.{AnsweredBy, AllChecked, BaseRises}
use Rattle.claims.proofs.Demand.{demand_3}
use Rattle.claims.proofs.Joining.{goes_one, last_bytes}

answered_by : (s : Setting) (l : Log) (r : Reading) (a : Said) → Judged s l r a → AnsweredBy r a
answered_by s l (fails n) a j = j.failed n refl
answered_by s l (located q) (value n) j = inl tt
answered_by s l (located q) (refusal n) j = inr ((j.contradicts q refl).1 (λ c. j.accepted.1 (q, refl, c)))

pub all_checked : (L : Layout) → AllChecked L
all_checked L scheme E w flows m₀ m a p e ts t r =
    let (s, h, d) = demand_3 L scheme E w flows m₀ m a p e _ r in (
      s,
      h,
      record {
        reading = read s flows (history s flows ts) t;
        checked = history_laws.checked s (setting-names scheme E w s h).valid flows _ _ t.call;
        answered = answered_by s (history s flows ts) _ (said t.answer) (d.calls ts t [] refl);
      },
    )

pub base_rises : (L : Layout) → BaseRises L
base_rises L scheme E w flows m₀ m a p e ts t r =
    let (s, h, d) = demand_3 L scheme E w flows m₀ m a p e _ r in
    let v = (setting-names scheme E w s h).valid in
    let k = history_laws.raised s v flows (history s flows ts) _ t.call (last_bytes L ts t m r) (said t.answer) (d.calls ts t [] refl) in
    (s, h, subst (λ l. BaseAfter s (base_of s (history s flows ts)) t.call (said t.answer) (base_of s l)) (sym (goes_one s flows ts fresh t)) k)
