-- What is read of the bytes that are left: what stands there, and what is left behind it.
use denote.Ref.{Bor}
use Rattle.std.specs.Prelude.{ℕ, ◌≡◌, ◌≢◌, ◌≤◌, ◌==◌, List, [], ◌∷◌, ◌++◌, Bool, false, IsTrue, slice_index, Result, Ok}
use Rattle.std.specs.Prelude.{Err, codes, decimal}
use Rattle.std.specs.List.{list_all}
use Rattle.definitions.specs.Characters.{is_digit}
use Rattle.definitions.specs.Plans.Path.{Path}
use Rattle.definitions.specs.Plans.Plan.{Plan, Loop, Merge, Sort}
use Rattle.definitions.specs.Plans.Certificate.{StateCost}
use Rattle.definitions.specs.Estimates.Version.{Version}
use Rattle.definitions.specs.Certificates.Text.{Written, direction_text, conjuncts_text, path_text, sorted_text}
use Rattle.definitions.specs.Certificates.Text.{plan_text, state_line, first_line, text_of}
use Rattle.definitions.specs.Certificates.Form.{is_number, is_direction, is_match, is_path, is_plan, is_state}
use Rattle.definitions.specs.Certificates.Form.{word_count, word_limit, has_form, Says}
use Rattle.definitions.specs.Printing.{line}
use Rattle.certificate_syntax.specs.declared.fault.FormFault.{FormFault}
use Rattle.certificate_syntax.specs.declared.fault.FormFault.TheVariants as fault
use Rattle.certificate_syntax.specs.declared.plan.Around.{Around}
use Rattle.certificate_syntax.specs.declared.plan.Around.TheVariants as around
use Rattle.certificate_syntax.specs.declared.written.Written as w
use Rattle.certificate_syntax.specs.Said.{said_of}
use Rattle.certificate_syntax.specs.declared.stop.TextStop.{TextStop}
use Rattle.certificate_syntax.specs.declared.stop.TextStop.TheVariants as stop

-- ---- what a step of reading gives

-- nothing of it stands there, or there is no memory
abbrev pub Refuses : {X : Type 0} → (X → List ℕ → Type 0) → TextStop → Type 0
Refuses {X} R (stop.Form left expected) = (x : X) (rest : List ℕ) → R x rest → ⊥
Refuses R stop.Memory = Unit {0}

-- it stands there, and nothing else does
abbrev pub Only : {X : Type 0} → (X → List ℕ → Type 0) → X → List ℕ → Type 0
Only {X} R x rest = R x rest × ((y : X) (other : List ℕ) → R y other → (y ≡ x) × (other ≡ rest))

abbrev pub Reads : {X Y : Type 0} → (Y → X) → (X → List ℕ → Type 0) → Result (Y × Bor (List ℕ)) TextStop → Type 0
Reads view R (Ok read) = Only R (view read.0) read.1.now
Reads view R (Err stop) = Refuses R stop

-- ---- what can stand there

abbrev pub WordIn : List ℕ → List ℕ → Unit {0} → List ℕ → Type 0
WordIn word text u rest = text ≡ word ++ rest

abbrev pub ReadsWord : List ℕ → List ℕ → Result (Bor (List ℕ)) TextStop → Type 0
ReadsWord word text (Ok rest) = Only (WordIn word text) tt rest.now
ReadsWord word text (Err stop) = Refuses (WordIn word text) stop

-- no digit comes first
abbrev pub IsBehindDigits : List ℕ → Type 0
IsBehindDigits text = is_digit (slice_index text 0) ≡ false

-- its leading digits, and what is behind them
abbrev pub IsSplit : List ℕ → List ℕ → List ℕ → Type 0
IsSplit text digits rest = IsTrue (list_all is_digit digits) × IsBehindDigits rest × (text ≡ digits ++ rest)

abbrev pub NumberIn : List ℕ → ℕ → List ℕ → Type 0
NumberIn text n rest = IsTrue (is_number n) × IsBehindDigits rest × (text ≡ decimal n ++ rest)

abbrev pub NumberBefore : (behind : List ℕ) → List ℕ → ℕ → List ℕ → Type 0
NumberBefore behind text n rest = IsTrue (is_number n) × (text ≡ decimal n ++ (behind ++ rest))

abbrev pub NumberBetween : (before behind : List ℕ) → List ℕ → ℕ → List ℕ → Type 0
NumberBetween before behind text n rest = IsTrue (is_number n) × (text ≡ before ++ (decimal n ++ (behind ++ rest)))

-- ---- paths

abbrev pub DirectionIn : Version → List ℕ → Bool → List ℕ → Type 0
DirectionIn version text backward rest = IsTrue (is_direction version backward)
    × (text ≡ direction_text backward ++ (codes ")" ++ rest))

-- as many things as stand there, one behind the other
abbrev pub Many : {X : Type 0} → (List ℕ → X → List ℕ → Type 0) → List ℕ → List X → List ℕ → Type 0
Many One text [] rest = text ≡ rest
Many One text (x ∷ xs) rest = (mid : List ℕ) × One text x mid × Many One mid xs rest

-- up to where another byte comes than the one that each begins with
abbrev pub AllIn : {X : Type 0} → (List ℕ → X → List ℕ → Type 0) → ℕ → List ℕ → List X → List ℕ → Type 0
AllIn One byte text xs rest = Many One text xs rest × (slice_index rest 0 ≢ byte)

abbrev pub SlashedIn : List ℕ → ℕ → List ℕ → Type 0
SlashedIn text n rest = IsTrue (is_number n) × IsBehindDigits rest × (text ≡ codes "/" ++ (decimal n ++ rest))

abbrev pub MatchIn : Version → List ℕ → List ℕ → List ℕ → Type 0
MatchIn version text numbers rest =
    IsTrue (is_match version numbers) × IsBehindDigits rest × (slice_index rest 0 ≢ 47)
    × (text ≡ conjuncts_text numbers ++ rest)

-- a path with the bracket behind it
abbrev pub PathIn : Version → List ℕ → Path → List ℕ → Type 0
PathIn version text path rest = IsTrue (is_path version path) × (text ≡ path_text path ++ (codes ")" ++ rest))

-- ---- plans

abbrev pub around_text : Around → List ℕ
around_text around.Loop = codes "LOOP("
around_text around.Merge = codes "MERGE("
around_text around.Sort = codes "SORT("

abbrev pub AroundIn : List ℕ → Around → List ℕ → Type 0
AroundIn text around rest = text ≡ around_text around ++ rest

-- "SORTED " has O as its second letter
abbrev pub SortedIn : List ℕ → Bool → List ℕ → Type 0
SortedIn text sorted rest = (sorted ≡ (slice_index text 1 == 79)) × (text ≡ sorted_text sorted ++ rest)

-- the end of a plan, whose beginning was a word and the plan below
abbrev pub WrappedIn : Version → Around → Plan → List ℕ → Plan → List ℕ → Type 0
WrappedIn version around.Loop below text (Loop outer path) rest =
    (outer ≡ below) × IsTrue (is_path version path) × (text ≡ codes "," ++ (path_text path ++ (codes ")" ++ rest)))
WrappedIn version around.Merge below text (Merge outer conjunct inner) rest =
    (outer ≡ below) × IsTrue (is_number conjunct) × IsTrue (is_path version inner.path)
    × (text ≡ codes ","
    ++ (decimal conjunct ++ (codes "," ++ (sorted_text inner.sorted ++ (path_text inner.path ++ (codes ")" ++ rest))))))
WrappedIn version around.Sort below text (Sort input order) rest =
    (input ≡ below) × IsTrue (is_number order) × (text ≡ codes "," ++ (decimal order ++ (codes ")" ++ rest)))
WrappedIn version around below text _ rest = ⊥

abbrev pub PlanIn : Version → (words : ℕ) → List ℕ → Plan → List ℕ → Type 0
PlanIn version words text plan rest = IsTrue (is_plan version plan) × (word_count plan ≤ words)
    × (text ≡ plan_text plan ++ rest)

-- ---- lines

abbrev pub StateIn : List ℕ → StateCost → List ℕ → Type 0
StateIn text state rest = IsTrue (is_state state) × (text ≡ state_line state ++ rest)

abbrev pub BlockIn : Version → List ℕ → ℕ → List ℕ → Type 0
BlockIn version text block rest = IsTrue (is_number block)
    × (text ≡ first_line version ++ (line (codes "BLOCK " ++ decimal block) ++ rest))

abbrev pub PlanLineIn : Version → List ℕ → Plan → List ℕ → Type 0
PlanLineIn version text plan rest =
    IsTrue (is_plan version plan) × (word_count plan ≤ word_limit)
    × (text ≡ line (codes "PLAN " ++ plan_text plan) ++ rest)

abbrev pub TextIn : Version → List ℕ → Written → List ℕ → Type 0
TextIn version text said rest = IsTrue (has_form version said) × (text ≡ text_of version said ++ rest)

-- ---- faults

abbrev pub SaysNothing : Version → List ℕ → FormFault → Type 0
SaysNothing version bytes (fault.Form at expected) = (said : Written) → Says version bytes said → ⊥
SaysNothing version bytes fault.Memory = Unit {0}

-- of a form where the stop is
abbrev pub IsFaultOf : FormFault → TextStop → Type 0
IsFaultOf (fault.Form at expected) (stop.Form left sought) = Unit {0}
IsFaultOf fault.Memory stop.Memory = Unit {0}
IsFaultOf _ _ = ⊥

abbrev pub SaysAll : Version → List ℕ → Result w.Written TextStop → Type 0
SaysAll version bytes (Ok written) = Says version bytes (said_of written)
SaysAll version bytes (Err (stop.Form left expected)) = (said : Written) → Says version bytes said → ⊥
SaysAll version bytes (Err stop.Memory) = Unit {0}
