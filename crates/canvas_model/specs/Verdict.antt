-- What the server may answer a change: the first reason against it, or what it grants.
use Rattle.std.specs.Prelude.{◌≡◌, ◌≢◌, ◌⊎◌, ℕ, ◌≤◌, ◌<◌, false, Option, Some, None, IsSomeAnd, List}
use Rattle.canvas_model.specs.declared.ObjId.{ObjId}
use Rattle.canvas_model.specs.declared.Kind.{Kind}
use Rattle.canvas_model.specs.declared.Reason.{Reason}
use Rattle.canvas_model.specs.declared.Reason.TheVariants.{IsRoot, BadId, Gone, ParentGone, BadParent, Cycle, Crowded, TooDeep}
use Rattle.canvas_model.specs.declared.Rule.{Rule}
use Rattle.canvas_model.specs.declared.Rule.TheVariants.{One, Two}
use Rattle.canvas_model.specs.Ids.{root}
use Rattle.canvas_model.specs.Document.{Doc, Place, live, kind_of, place_of, may_stand}
use Rattle.canvas_model.specs.Chain.{Below, AreBelow}
use Rattle.canvas_model.specs.Depth.{IsTooDeepUnder, MovesTooDeep}
use Rattle.canvas_model.specs.Sibling.{Gets, HasNoRoom}
use Rattle.canvas_model.specs.Change.{Change, Create, Set, Move, Delete, object_of, asked}
use Rattle.canvas_model.specs.State.{State, used}

-- what became of a request
pub data Outcome : Type 0 where
  Joined : ℕ → Outcome
  Created : Place → Outcome
  WasSet : Outcome
  Moved : Place → Outcome
  Removed : List ObjId → Outcome
  Refused : Reason → Option Place → Outcome

-- the number by which a reason is known
abbrev pub number_of : Reason → ℕ
number_of IsRoot = 1
number_of BadId = 2
number_of Gone = 3
number_of ParentGone = 4
number_of BadParent = 5
number_of Cycle = 6
number_of Crowded = 7
number_of TooDeep = 8

-- the order in which the reasons are looked for, which isn't that of their numbers
abbrev pub rank : Reason → ℕ
rank IsRoot = 1
rank BadId = 2
rank Gone = 3
rank ParentGone = 4
rank BadParent = 5
rank Cycle = 6
rank TooDeep = 7
rank Crowded = 8

-- the rule limits how deep objects stand
abbrev pub LimitsDepth : Rule → Type 0
LimitsDepth One = ⊥
LimitsDepth Two = Unit {0}

-- the change creates, moves or deletes the root
abbrev pub IsOfRoot : Change → Type 0
IsOfRoot (Create id kind place) = id ≡ root
IsOfRoot (Set id name value) = ⊥
IsOfRoot (Move id place) = id ≡ root
IsOfRoot (Delete id) = id ≡ root

-- the new object's id isn't its author's, or its counter isn't above those used
abbrev pub IsMisnamed : State → ℕ → Change → Type 0
IsMisnamed s author (Create id kind place) = (id.client ≢ author) ⊎ (id.counter ≤ used s author)
IsMisnamed s author (Set id name value) = ⊥
IsMisnamed s author (Move id place) = ⊥
IsMisnamed s author (Delete id) = ⊥

-- the object that is to be there isn't
abbrev pub IsMissing : Doc → Change → Type 0
IsMissing d (Create id kind place) = ⊥
IsMissing d (Set id name value) = live d id ≡ false
IsMissing d (Move id place) = live d id ≡ false
IsMissing d (Delete id) = live d id ≡ false

-- the kind that is to stand at the asked place
abbrev pub kind_at : Doc → Change → Option Kind
kind_at d (Create id kind place) = Some kind
kind_at d (Set id name value) = kind_of d id
kind_at d (Move id place) = kind_of d id
kind_at d (Delete id) = kind_of d id

-- there aren't two kinds, the first of which may stand under the second
abbrev pub MayNotStand : Option Kind → Option Kind → Type 0
MayNotStand (Some k) (Some p) = may_stand k p ≡ false
MayNotStand (Some k) None = Unit {0}
MayNotStand None p = Unit {0}

-- the new parent is the moved object or lies below it
abbrev pub IsCircular : Doc → Change → Place → Type 0
IsCircular d (Move id _) place = Below d place.parent id
IsCircular d (Create id kind _) place = ⊥
IsCircular d (Set id name value) place = ⊥
IsCircular d (Delete id) place = ⊥

-- the new object, or the moved one or something below it, would stand too deep
abbrev pub IsTooDeep : Doc → Change → Place → Type 0
IsTooDeep d (Create id kind _) place = IsTooDeepUnder d place.parent
IsTooDeep d (Move id _) place = MovesTooDeep d id place.parent
IsTooDeep d (Set id name value) place = ⊥
IsTooDeep d (Delete id) place = ⊥

-- by this rule the reason holds, whether or not an earlier one does
abbrev pub Holds : Rule → State → ℕ → Change → Reason → Type 0
Holds rule s author change IsRoot = IsOfRoot change
Holds rule s author change BadId = IsMisnamed s author change
Holds rule s author change Gone = IsMissing s.doc change
Holds rule s author change ParentGone = IsSomeAnd (asked change) (λ place. live s.doc place.parent ≡ false)
Holds rule s author change BadParent = IsSomeAnd (asked change) (λ place. MayNotStand (kind_at s.doc change) (kind_of s.doc place.parent))
Holds rule s author change Cycle = IsSomeAnd (asked change) (IsCircular s.doc change)
Holds rule s author change Crowded = IsSomeAnd (asked change) (HasNoRoom s.doc (object_of change))
Holds rule s author change TooDeep = LimitsDepth rule × IsSomeAnd (asked change) (IsTooDeep s.doc change)

-- by this rule no reason of a lower rank than n holds
abbrev pub NoneBefore : Rule → State → ℕ → Change → ℕ → Type 0
NoneBefore rule s author change n = (reason : Reason) → rank reason < n → Holds rule s author change reason → ⊥

-- the place that a refused Move carries: where its object stands, which is nowhere for the root and for what isn't live
abbrev pub stands : Doc → Change → Option Place
stands d (Create id kind place) = None
stands d (Set id name value) = None
stands d (Move id place) = place_of d id
stands d (Delete id) = None

-- the outcome grants the change
abbrev pub Accepted : Doc → Change → Outcome → Type 0
Accepted d (Create id kind ask) (Created got) = Gets d id ask got
Accepted d (Set id name value) WasSet = Unit {0}
Accepted d (Move id ask) (Moved got) = Gets d id ask got
Accepted d (Delete id) (Removed ids) = AreBelow d id ids
Accepted d _ _ = ⊥

-- by this rule the outcome refuses for the first reason that holds, or grants where none does
abbrev pub Judges : Rule → State → ℕ → Change → Outcome → Type 0
Judges rule s author change (Refused reason place) = Holds rule s author change reason × NoneBefore rule s author change (rank reason) × (place ≡ stands s.doc change)
Judges rule s author change outcome = ((reason : Reason) → Holds rule s author change reason → ⊥) × Accepted s.doc change outcome

-- the outcome is what rule Two allows, by which the server judges
abbrev pub Verdict : State → ℕ → Change → Outcome → Type 0
Verdict = Judges Two
