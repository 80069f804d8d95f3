use Rattle.std.proofs.Common.{◌≡◌, ◌∙◌, sym, ap, ap₂, subst, ℕ, zero, suc, ◌<◌, List, [], ◌∷◌, ◌++◌, Some, length, map, take, drop, get_or, arith, rules}
use Rattle.std.specs.Prelude.{slice_get}
use Rattle.std.specs.List.{AllByRecursion}
use Rattle.std.proofs.Math.Seq.{take-suc}
use Rattle.std.proofs.lemmas.List.{length-append, length-map, map-append, take_all}
use Rattle.std.proofs.lemmas.Option.{slice_get-get_or}
use Rattle.definitions.specs.Queries.BoundBlock.{Blocks}
use Rattle.definitions.specs.Binding.Answerable.{IsAnswerable}
use Rattle.definitions.specs.Binding.Formed.{IsFormedSomewhere}
use Rattle.definitions.specs.Estimates.BlockSpace.{space_of}
use Rattle.definitions.specs.Estimates.Version.{current_version}
use Rattle.definitions.specs.Plans.Certificate.{Certificate}
use Rattle.definitions.specs.Plans.Exact.{IsCertified}
use Rattle.plan_tree.specs.Plans.{plan_of}
use Rattle.definitions_answers.specs.Parameters.{parameters}
use Rattle.definitions_answers.proofs.Taken.{all_joined}
use Rattle.query_tree.specs.Bound.{block_of}
use Rattle.query_tree.specs.declared.block.Block.{Block}
use Rattle.filters.specs.Sources.{block_in}
use Rattle.plan_space.specs.BlockPlans.{AreLeastOf}
use Rattle.subqueries.specs.OuterColumns.{columns_of_option, outer_columns_of}
use Rattle.executor.specs.ReadyBlocks.{blocks_in, HasLeast, IsReadyIn}
use Rattle.executor.specs.declared.ready_block.ReadyBlock.{ReadyBlock}
use Rattle.executor.proofs.InnerBlocks.{at_place, some_is}
use Rattle.executor.proofs.InnerTelling.{get_mapped}
use Rattle.executor.proofs.GivenPlans.{given_at, left_at, none_left, one_left}
use Rattle.executor.proofs.ready_block.ready_blocks.Goals as goal

one_more : (P : ℕ → ReadyBlock → Type 0) (xs : List ReadyBlock) (y : ReadyBlock) → ((k : ℕ) (x : ReadyBlock) → slice_get xs k ≡ Some x → P k x) → P (length xs) y → (k : ℕ) (x : ReadyBlock) → slice_get (xs ++ y ∷ []) k ≡ Some x → P k x
one_more P [] y h own zero x e = subst (P 0) (some_is y x e) own
one_more P [] y h own (suc k) x e = absurd cc
one_more P (z ∷ xs) y h own zero x e = h 0 x e
one_more P (z ∷ xs) y h own (suc k) x e = one_more (λ n. P (suc n)) xs y (λ n w is. h (suc n) w is) own k x e

pub new-requires-clause-formed : goal.new-requires-clause-formed
new-requires-clause-formed c =
    let db = c.args.database.now in
    let blocks : Blocks = map block_of c.args.blocks.now in
    let n = c.len-number.result in
    let b : Block = c.index-blocks-number.result in
    let ready : n ≡ length c.taking.query.items = search rules in
    let left = left_at db blocks (length c.taking.query.items) n c.taking.rest.rest.items c.in-Some.chosen c.next.new.self.rest.items ready c.in-Some.ensures.items c.taking.invariant.left in
    let within : n < length c.args.blocks.now = subst (λ k. n < k) (length-map c.args.blocks.now block_of) (one_left db blocks n c.in-Some.chosen c.next.new.self.rest.items left) in
    let here : slice_get c.args.blocks.now n ≡ Some b = slice_get-get_or c.args.blocks.now n b within ∙ ap Some (sym c.index-blocks-number.is) in
    let mapped : slice_get blocks n ≡ Some (block_of b) = get_mapped block_of c.args.blocks.now n b here in
    at_place (IsFormedSomewhere db) blocks n (block_of b) c.requires.formed mapped

pub new-requires-clause-answerable : goal.new-requires-clause-answerable
new-requires-clause-answerable c =
    let db = c.args.database.now in
    let blocks : Blocks = map block_of c.args.blocks.now in
    let n = c.len-number.result in
    let b : Block = c.index-blocks-number.result in
    let ready : n ≡ length c.taking.query.items = search rules in
    let left = left_at db blocks (length c.taking.query.items) n c.taking.rest.rest.items c.in-Some.chosen c.next.new.self.rest.items ready c.in-Some.ensures.items c.taking.invariant.left in
    let within : n < length c.args.blocks.now = subst (λ k. n < k) (length-map c.args.blocks.now block_of) (one_left db blocks n c.in-Some.chosen c.next.new.self.rest.items left) in
    let here : slice_get c.args.blocks.now n ≡ Some b = slice_get-get_or c.args.blocks.now n b within ∙ ap Some (sym c.index-blocks-number.is) in
    let mapped : slice_get blocks n ≡ Some (block_of b) = get_mapped block_of c.args.blocks.now n b here in
    at_place IsAnswerable blocks n (block_of b) c.requires.answerable mapped

pub new-requires-clause-conjuncts : goal.new-requires-clause-conjuncts
new-requires-clause-conjuncts c =
    let db = c.args.database.now in
    let blocks : Blocks = map block_of c.args.blocks.now in
    let n = c.len-number.result in
    let b : Block = c.index-blocks-number.result in
    let ready : n ≡ length c.taking.query.items = search rules in
    let left = left_at db blocks (length c.taking.query.items) n c.taking.rest.rest.items c.in-Some.chosen c.next.new.self.rest.items ready c.in-Some.ensures.items c.taking.invariant.left in
    let within : n < length c.args.blocks.now = subst (λ k. n < k) (length-map c.args.blocks.now block_of) (one_left db blocks n c.in-Some.chosen c.next.new.self.rest.items left) in
    let here : slice_get c.args.blocks.now n ≡ Some b = slice_get-get_or c.args.blocks.now n b within ∙ ap Some (sym c.index-blocks-number.is) in
    let mapped : slice_get blocks n ≡ Some (block_of b) = get_mapped block_of c.args.blocks.now n b here in
    (given_at db blocks n c.in-Some.chosen c.next.new.self.rest.items (block_of b) mapped left).0.conjuncts

pub new-requires-clause-space : goal.new-requires-clause-space
new-requires-clause-space c =
    let db = c.args.database.now in
    let blocks : Blocks = map block_of c.args.blocks.now in
    let n = c.len-number.result in
    let b : Block = c.index-blocks-number.result in
    let ready : n ≡ length c.taking.query.items = search rules in
    let left = left_at db blocks (length c.taking.query.items) n c.taking.rest.rest.items c.in-Some.chosen c.next.new.self.rest.items ready c.in-Some.ensures.items c.taking.invariant.left in
    let within : n < length c.args.blocks.now = subst (λ k. n < k) (length-map c.args.blocks.now block_of) (one_left db blocks n c.in-Some.chosen c.next.new.self.rest.items left) in
    let here : slice_get c.args.blocks.now n ≡ Some b = slice_get-get_or c.args.blocks.now n b within ∙ ap Some (sym c.index-blocks-number.is) in
    let mapped : slice_get blocks n ≡ Some (block_of b) = get_mapped block_of c.args.blocks.now n b here in
    (given_at db blocks n c.in-Some.chosen c.next.new.self.rest.items (block_of b) mapped left).0.space

pub new-requires-clause-within : goal.new-requires-clause-within
new-requires-clause-within c =
    let db = c.args.database.now in
    let blocks : Blocks = map block_of c.args.blocks.now in
    let n = c.len-number.result in
    let b : Block = c.index-blocks-number.result in
    let ready : n ≡ length c.taking.query.items = search rules in
    let left = left_at db blocks (length c.taking.query.items) n c.taking.rest.rest.items c.in-Some.chosen c.next.new.self.rest.items ready c.in-Some.ensures.items c.taking.invariant.left in
    let within : n < length c.args.blocks.now = subst (λ k. n < k) (length-map c.args.blocks.now block_of) (one_left db blocks n c.in-Some.chosen c.next.new.self.rest.items left) in
    let here : slice_get c.args.blocks.now n ≡ Some b = slice_get-get_or c.args.blocks.now n b within ∙ ap Some (sym c.index-blocks-number.is) in
    let mapped : slice_get blocks n ≡ Some (block_of b) = get_mapped block_of c.args.blocks.now n b here in
    let given = (given_at db blocks n c.in-Some.chosen c.next.new.self.rest.items (block_of b) mapped left).0 in
    let (certificate, certified) = given.certified in
    let (valid, exact, least) = certified in
    least.0

pub new-requires-clause-required : goal.new-requires-clause-required
new-requires-clause-required c =
    let db = c.args.database.now in
    let blocks : Blocks = map block_of c.args.blocks.now in
    let n = c.len-number.result in
    let b : Block = c.index-blocks-number.result in
    let ready : n ≡ length c.taking.query.items = search rules in
    let left = left_at db blocks (length c.taking.query.items) n c.taking.rest.rest.items c.in-Some.chosen c.next.new.self.rest.items ready c.in-Some.ensures.items c.taking.invariant.left in
    let within : n < length c.args.blocks.now = subst (λ k. n < k) (length-map c.args.blocks.now block_of) (one_left db blocks n c.in-Some.chosen c.next.new.self.rest.items left) in
    let here : slice_get c.args.blocks.now n ≡ Some b = slice_get-get_or c.args.blocks.now n b within ∙ ap Some (sym c.index-blocks-number.is) in
    let mapped : slice_get blocks n ≡ Some (block_of b) = get_mapped block_of c.args.blocks.now n b here in
    let given = (given_at db blocks n c.in-Some.chosen c.next.new.self.rest.items (block_of b) mapped left).0 in
    let (certificate, certified) = given.certified in
    let (valid, exact, least) = certified in
    least.1

pub taking-preserved : goal.taking-preserved
taking-preserved c =
    let db = c.args.database.now in
    let blocks : Blocks = map block_of c.args.blocks.now in
    let n = c.len-number.result in
    let b : Block = c.index-blocks-number.result in
    let ready : n ≡ length c.taking.query.items = search rules in
    let left = left_at db blocks (length c.taking.query.items) n c.taking.rest.rest.items c.in-Some.chosen c.next.new.self.rest.items ready c.in-Some.ensures.items c.taking.invariant.left in
    let within : n < length c.args.blocks.now = subst (λ k. n < k) (length-map c.args.blocks.now block_of) (one_left db blocks n c.in-Some.chosen c.next.new.self.rest.items left) in
    let here : slice_get c.args.blocks.now n ≡ Some b = slice_get-get_or c.args.blocks.now n b within ∙ ap Some (sym c.index-blocks-number.is) in
    let mapped : slice_get blocks n ≡ Some (block_of b) = get_mapped block_of c.args.blocks.now n b here in
    let (given, behind) = given_at db blocks n c.in-Some.chosen c.next.new.self.rest.items (block_of b) mapped left in
    let own = c.index.result.now in
    let columns = c.in_ok-parameters.parameters.items in
    let in_columns : n < length columns = subst (λ k. n < k) (sym c.in_ok-parameters.ensures.count) within in
    let at_own : slice_get columns n ≡ Some own = slice_get-get_or columns n own in_columns ∙ ap Some (sym c.index.ensures) in
    let params : outer_columns_of c.deref.result.now ≡ parameters blocks n =
    ap outer_columns_of c.deref.ensures.value ∙ sym (ap columns_of_option at_own) ∙ c.in_ok-parameters.ensures.exact n in
    let r : ReadyBlock = c.in_ok-ready.ready in
    let old = c.taking.query.items in
    let items : c.push.new.self.items ≡ old ++ r ∷ [] = c.in_ok-push.ensures.items in
    let inv = c.taking.invariant in
    let same : n ≡ length old = ready in
    let within_mapped : n < length blocks = subst (λ k. n < k) (sym (length-map c.args.blocks.now block_of)) within in
    let is_b : get_or blocks n (block_of b) ≡ block_of b = some_is (get_or blocks n (block_of b)) (block_of b) (sym (slice_get-get_or blocks n (block_of b) within_mapped) ∙ mapped) in
    let count : length c.push.new.self.items ≡ suc n = ap length items ∙ length-append old (r ∷ []) ∙ omega (arith, same) in
    let own_least : HasLeast db r =
    subst (λ p. (certificate : Certificate) × IsCertified (space_of current_version db (block_in r.source)) p certificate) (sym c.in_ok-ready.ensures.plan)
    (subst (λ x. (certificate : Certificate) × IsCertified (space_of current_version db x) (plan_of c.in-Some.chosen.plan) certificate) (sym c.in_ok-ready.ensures.block) given.certified) in
    record {
      blocks =
          ap blocks_in items ∙ map-append (λ (x : ReadyBlock). block_in x.source) old (r ∷ [])
          ∙ ap₂ (λ xs x. xs ++ x ∷ []) (inv.blocks ∙ ap (λ k. take k blocks) (sym same)) (c.in_ok-ready.ensures.block ∙ sym is_b)
          ∙ sym (take-suc blocks n (block_of b) within_mapped) ∙ ap (λ k. take k blocks) (sym count);
      ready =
          subst (λ xs. (k : ℕ) (x : ReadyBlock) → slice_get xs k ≡ Some x → IsReadyIn db blocks k x) (sym items)
          (one_more (IsReadyIn db blocks) old r inv.ready (subst (λ k. IsReadyIn db blocks k r) same (c.in_ok-ready.ensures.ready blocks n params)));
      least = subst (AllByRecursion (HasLeast db)) (sym items) (all_joined (HasLeast db) old (r ∷ []) inv.least (own_least, tt));
      left = subst (λ k. AreLeastOf db (drop k blocks) c.next.new.self.rest.items) (sym count) behind;
    }

pub returns-clause-blocks : goal.returns-clause-blocks
returns-clause-blocks c =
    let blocks : Blocks = map block_of c.args.blocks.now in
    let none : length c.taking.rest.rest.items ≡ 0 = search rules in
    c.taking.invariant.blocks ∙ take_all (length c.taking.query.items) blocks (none_left c.args.database.now blocks (length c.taking.query.items) c.taking.rest.rest.items none c.taking.invariant.left)
