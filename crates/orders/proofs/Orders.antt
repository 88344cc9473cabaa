-- What two receivers show depends on which packets they have accepted, and not on their order.
use Rattle.std.specs.Prelude.{◌≡◌, ◌↔◌}
use Rattle.words.specs.Words.{ℕ, List, length, ◌∙◌, sym, true, subst}
use Rattle.wire.specs.declared.Setting.{Setting}
use Rattle.wire.specs.Settings.{setting_of, Valid}
use Rattle.wire.proofs.Settings.{setting-names}
use Rattle.history.specs.History.{Filling, All, Log, fresh, base_of}
use Rattle.history.proofs.Origins.{brought, brought_is}
use Rattle.receiver.specs.Promises.{Layout}
use Rattle.claims.specs.Run.{final, history}
use Rattle.claims.proofs.Demand.{some_bytes, had_setting}
use Rattle.claims.proofs.Origins.{Heard, heard_on, opened_heard, brings_one, one_brings}
use Rattle.claims.proofs.Handing.{Marked, marked-on, opened-marked}
use Rattle.orders.specs.Orders.{ShownAlike, NextAlike, TwoPaths, TwoOrders}
use Rattle.orders.proofs.Windows.{Among, all_among, same_base, ahead_on}
use Rattle.orders.proofs.Shown.{one_state, next, shown}
use Rattle.orders.proofs.SamePackets.{among}

-- ---- Two logs of the same packets

-- What was brought by the packets of a log was by those of another that has them all.
brought_too : (l k : Log) → Among l k → (p : ℕ) → brought l p ≡ true → brought k p ≡ true
brought_too l k c p e =
    let (q, m, b) = brings_one l p ((brought_is l p).0 e) in
    (brought_is k p).1 (one_brings k p q (c q m) b)

module _ (L : Layout) (s : Setting) (flows : List ℕ) (v : Valid s) (m n : List ℕ) (l k : Log)
    (heard : Heard L s flows v m l) (heard' : Heard L s flows v n k) (marked : Marked L s flows v m l) (marked' : Marked L s flows v n k)
    (there : Among l k) (back : Among k l) (bases : base_of s l ≡ base_of s k) where
  open s use {size as E}

  fillings : (f : Filling E) → All E l f ↔ All E k f
  fillings f = (all_among E k l back f, all_among E l k there f)

  one : heard.stands.state ≡ heard'.stands.state
  one = one_state s (some_bytes L s flows v) l k heard.stands.state heard'.stands.state heard.stands.tracks heard'.stands.tracks bases fillings

  held' : L.Holds n s flows heard.stands.state
  held' = subst (L.Holds n s flows) (sym one) heard'.stands.held

  goes_on_alike : NextAlike L m n
  goes_on_alike = next L s flows m n heard.stands.state heard.stands.held held'

  shown_alike : (e : ℕ) → ShownAlike L E m n e
  shown_alike =
      let u = marked.state in
      let same = one_state s (some_bytes L s flows v) l k u marked'.state marked.tracks marked'.tracks bases fillings in
      shown L s flows m n heard.stands.state heard.stands.held held' (brought l) (brought k) heard.hears
      (subst (λ x. L.Hears n s x (brought k)) (sym one) heard'.hears) (brought_too l k there) (brought_too k l back) u marked.starts marked'.starts
      marked.held (subst (L.Holds n s flows) (sym same) marked'.held) marked.marks
      (subst (λ x. L.Marks n s x marked'.starts) (sym same) marked'.marks)

pub two-orders : (L : Layout) → TwoOrders L
two-orders L scheme E w flows m₀ m n₀ n a b o z o' z' ts us r r' =
    let (s, h) = had_setting (setting_of scheme E w) (length m₀) (sym o.answer ∙ z) in
    let v = (setting-names scheme E w s h).valid in (
      s,
      h,
      λ c.
          let l = history s flows ts in
          let k = history s flows us in
          let there : Among l k = λ q. (c q).0 in
          let back : Among k l = λ q. (c q).1 in
          let heard = heard_on L s flows v ts m fresh (opened_heard L s flows v scheme E w m₀ m a o z h) r in
          let heard' = heard_on L s flows v us n fresh (opened_heard L s flows v scheme E w n₀ n b o' z' h) r' in
          let marked = marked-on L s flows v ts m fresh (opened-marked L s flows v scheme E w m₀ m a o z h) r in
          let marked' = marked-on L s flows v us n fresh (opened-marked L s flows v scheme E w n₀ n b o' z' h) r' in
          let bases = same_base s l k (ahead_on L s flows v ts m fresh r tt) (ahead_on L s flows v us n fresh r' tt) there back in
          record {
            windows = bases;
            known = λ p. (
              (λ i f g x y. i f g (all_among s.size l k there f x) (all_among s.size l k there g y)),
              (λ i f g x y. i f g (all_among s.size k l back f x) (all_among s.size k l back g y)),
            );
            shown = shown_alike L s flows v (final m ts) (final n us) l k heard heard' marked marked' there back bases;
            next = goes_on_alike L s flows v (final m ts) (final n us) l k heard heard' marked marked' there back bases;
          },
    )

pub two_paths : (L : Layout) → TwoPaths L
two_paths L scheme E w flows m₀ m n₀ n a b o z o' z' ts us r r' =
    let (s, h, f) = two-orders L scheme E w flows m₀ m n₀ n a b o z o' z' ts us r r' in
    (s, h, λ c. f (λ q. (among s flows ts us (λ x p. (c x p).0) q, among s flows us ts (λ x p. (c x p).1) q)))
