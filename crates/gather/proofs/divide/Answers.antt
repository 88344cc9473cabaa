-- `gather::divide` meets its contract.
use Rattle.gather.proofs.Admitting.{divided_one}
use Rattle.gather.proofs.divide.Goals as goal

pub returns-then-k-eq1 : goal.returns-then-k-eq1
returns-then-k-eq1 c =
    let a = c.args in
    divided_one a.at a.n a.k a.work.now c.if-k-eq1.true c.requires (λ i. (c.type_inv.work i).fits)

pub returns : goal.returns
returns c = rw c.inverse.ensures at c.scale_part.ensures
