-- What faults and places stand for.
use Rattle.std.specs.Prelude.{Option, Some, None, true, false, [], map}
use Rattle.definitions.specs.Refusal as r
use Rattle.definitions.specs.Refusal.{Refusal}
use Rattle.query_tree.specs.Bound.{column_of}
use Rattle.query_rules.specs.declared.fault.QueryFault.{QueryFault}
use Rattle.query_rules.specs.declared.fault.QueryFault.TheVariants as q
use Rattle.query_rules.specs.declared.fault.BindFault.{BindFault}
use Rattle.query_rules.specs.declared.fault.BindFault.TheVariants as f
use Rattle.query_rules.specs.declared.clause.ClauseKind.{ClauseKind}
use Rattle.query_rules.specs.declared.clause.ClauseKind.TheVariants as p
use Rattle.query_rules.specs.Judging as j

abbrev pub query_refusal : QueryFault → Refusal
query_refusal (q.ManyTables n) = r.ManyTables
query_refusal (q.NoTable n) = r.NotFound
query_refusal (q.NameTwice n) = r.NameTaken
query_refusal (q.NoColumn c) = r.UnknownColumn
query_refusal (q.AmbiguousColumn c) = r.UnknownColumn
query_refusal (q.GroupNotOwn c) = r.UnknownColumn
query_refusal (q.OuterInFunction c) = r.MisplacedFunction
query_refusal (q.Ungrouped c) = r.UngroupedColumn
query_refusal (q.GreatScale e) = r.ScaleTooGreat
query_refusal (q.GreatProduct x) = r.ScaleTooGreat
query_refusal (q.TextForNumber e) = r.MixedKinds
query_refusal (q.NumberForText e) = r.MixedKinds
query_refusal (q.NumberWithText e) = r.MixedKinds
query_refusal (q.TextWithNumber e) = r.MixedKinds
query_refusal (q.NotOneColumn b) = r.MixedKinds
query_refusal (q.ConditionForValue e) = r.MisplacedCondition
query_refusal (q.ValueForCondition e) = r.MisplacedCondition
query_refusal (q.MisplacedFunction e) = r.MisplacedFunction
query_refusal (q.StarOfGroups b) = r.UngroupedColumn
query_refusal (q.UnknownKey k) = r.UnknownKey
query_refusal (q.ManyBlocks b) = r.OverQueryLimit
query_refusal (q.MisplacedQuery b) = r.OverQueryLimit
query_refusal (q.ManyConjuncts e) = r.OverQueryLimit
query_refusal (q.ManyMembers e) = r.OverQueryLimit
query_refusal (q.ManyItems b) = r.OverQueryLimit
query_refusal (q.ManyGroups b) = r.OverQueryLimit
query_refusal (q.ManyKeys k) = r.OverQueryLimit

-- the refusal of a query that is not bound; none where memory was wanting
abbrev pub bind_refusal : BindFault → Option Refusal
bind_refusal (f.Refused fault) = Some (query_refusal fault)
bind_refusal f.Memory = None

abbrev pub place_of : ClauseKind → j.ClauseKind
place_of p.Where = j.InWhere
place_of p.Shown = j.InShown false []
place_of (p.Grouped columns) = j.InShown true (map column_of columns.now)
place_of p.Argument = j.InArgument
