-- `handing::hand_out` meets its contract.
use Rattle.words.specs.Words.{arith, ℕ, List, rules, ◌∙◌, sym, true, false}
use Rattle.table.proofs.Offsets.{header-long}
use Rattle.handing.proofs.Giving.{known_is, Read, Whole, whole_is, spans, no_start, first_unknown, too_many, another_unknown, not-padded, no_room}
use Rattle.handing.proofs.Giving.{stray, hands_out}
use Rattle.handing.proofs.hand_out.Goals as goal
use Rattle.handing.proofs.hand_out.Goals.{After-symbol_count-n, Else-not-all_known}

-- What is said of the call's arguments and of where and what L and the number of symbols are.
abbrev Of : ((w E oldest d : ℕ) (m : List ℕ) (at L n : ℕ) → Type 0) → After-symbol_count-n → Type 0
Of R p =
    let a = p.args in
    let s = a.shape in
    R s.width s.size s.oldest a.d a.mem.now p.symbol_of-at.result p.load_u16-len.result p.symbol_count-n.result

read : (p : After-symbol_count-n) → Of Read p
read p =
    let marked = p.is_marked in
    record {
      fits = p.requires.0;
      bytes = λ i. search rules;
      inside = p.requires.2;
      start = sym marked.ensures ∙ p.if-not-is_marked.false;
      first = known_is _ _ _ _ _ _ _ true p.row_of-r.ensures.is p.if-not-is_known.false p.is_known.ensures;
      here = p.symbol_of-at.ensures.start;
      end = p.symbol_of-at.ensures.end;
      size = p.load_u16-len.ensures;
      short = omega arith;
      count = p.symbol_count-n.ensures;
    }

whole : (p : Else-not-all_known) → Of Whole (goal.at.Else-not-all_known p).After-symbol_count-n
whole p =
    let all = p.all_known in
    whole_is (read (goal.at.Else-not-all_known p).After-symbol_count-n) p.if-shape-n.false all.result p.if-not-all_known.false all.ensures

pub returns-then-not-is_marked : goal.returns-then-not-is_marked
returns-then-not-is_marked c =
    no_start _ _ _ _ _ _ c.requires.2 (sym c.is_marked.ensures ∙ c.if-not-is_marked.true)

pub returns-then-not-is_known : goal.returns-then-not-is_known
returns-then-not-is_known c =
    first_unknown _ _ _ _ _ _ c.requires.0 (λ i. (c.type_inv.mem i).fits) c.requires.2
    (sym c.is_marked.ensures ∙ c.if-not-is_marked.false)
    (known_is _ _ _ _ _ _ _ false c.row_of-r.ensures.is c.if-not-is_known.true c.is_known.ensures)

pub returns-then-shape-n : goal.returns-then-shape-n
returns-then-shape-n c = too_many _ _ _ _ _ _ _ _ _ (read (goal.at.returns-then-shape-n c).After-symbol_count-n) c.if-shape-n.true

pub returns-then-not-all_known : goal.returns-then-not-all_known
returns-then-not-all_known c =
    let all = c.all_known in
    another_unknown _ _ _ _ _ _ _ _ _ (read (goal.at.returns-then-not-all_known c).After-symbol_count-n) c.if-shape-n.false all.result
    c.if-not-all_known.true all.ensures

pub is_padded-requires : goal.is_padded-requires
is_padded-requires c = (c.requires.0, c.requires.1, spans (whole (goal.at.is_padded-requires c).Else-not-all_known))

pub returns-then-not-is_padded : goal.returns-then-not-is_padded
returns-then-not-is_padded c =
    not-padded _ _ _ _ _ _ _ _ _ (whole (goal.at.returns-then-not-is_padded c).Else-not-all_known)
    (sym c.is_padded.ensures ∙ c.if-not-is_padded.true)

-- From there on the padding is zero, and the flow is read.
pub bounds-mem-at : goal.bounds-mem-at
bounds-mem-at c =
    let r = (whole (goal.at.bounds-mem-at c).Else-not-all_known).read in
    omega (arith, r.end, r.fits.room, r.fits.some_symbol)

pub is_announced-requires : goal.is_announced-requires
is_announced-requires c =
    let r = (whole (goal.at.is_announced-requires c).Else-not-all_known).read in
    omega (arith, header-long, r.fits.room)

pub returns-then-not-is_announced : goal.returns-then-not-is_announced
returns-then-not-is_announced c =
    stray _ _ _ _ _ _ _ _ _ (whole (goal.at.returns-then-not-is_announced c).Else-not-all_known)
    (sym c.is_padded.ensures ∙ c.if-not-is_padded.false) (sym c.is_announced.ensures ∙ c.if-not-is_announced.true)

-- And from here on the flow is announced.
pub returns-then-out-len : goal.returns-then-out-len
returns-then-out-len c =
    no_room _ _ _ _ _ _ _ _ _ (whole (goal.at.returns-then-out-len c).Else-not-all_known)
    (sym c.is_padded.ensures ∙ c.if-not-is_padded.false) (sym c.is_announced.ensures ∙ c.if-not-is_announced.false) c.if-out-len.true

pub copy_adu-requires : goal.copy_adu-requires
copy_adu-requires c =
    (c.requires.0, c.requires.1, spans (whole (goal.at.copy_adu-requires c).Else-not-all_known), c.if-out-len.false)

pub returns : goal.returns
returns c =
    hands_out _ _ _ _ _ _ _ _ _ (whole (goal.at.returns c).Else-not-all_known)
    (sym c.is_padded.ensures ∙ c.if-not-is_padded.false) (sym c.is_announced.ensures ∙ c.if-not-is_announced.false)
    c.if-out-len.false _ c.copy_adu.ensures
