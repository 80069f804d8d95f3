use Rattle.interesting_orders.proofs.order_use.partners.Goals as goal

pub returns-in-Some : goal.returns-in-Some
returns-in-Some c = λ space tables e classes. rw c.in-Some.is (c.partners.ensures space tables e classes)
