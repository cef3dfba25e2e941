-- A line is read as a request in one way.
use Rattle.std.proofs.Common.{◌≡◌, ℕ, ◌<◌, ◌^◌, List, [], ◌∷◌, ◌++◌, Some, None, refl, sym, ap, subst, ◌∙◌, append_assoc}
use Rattle.std.specs.Prelude.{bytes_eq, codes, if◌then◌else◌}
use Rattle.std.specs.Fmt.{decimal}
use Rattle.canvas_model.specs.declared.ObjId.{ObjId}
use Rattle.canvas_model.specs.declared.Kind.{Kind}
use Rattle.canvas_model.specs.declared.Kind.TheVariants.{Document, Page, Frame, Shape, Text}
use Rattle.canvas_model.specs.Value.{Value, IsShallow}
use Rattle.canvas_model.specs.Document.{Name, Place}
use Rattle.canvas_model.specs.Change.{Change, Create, Set, Move, Delete}
use Rattle.canvas_model.specs.Text.{id_text, kind_word, place_text}
use Rattle.canvas_value.specs.Names.{IsName}
use Rattle.canvas_model.specs.Ids.{IsId}
use Rattle.canvas_model.specs.Words.{Lacks, IsCut}
use Rattle.canvas_lines.specs.Spelling.{IsSpellablePlace, SpellsIdFirst, SpellsName, SpellsNumber, SpellsPlace, SpellsValue, Requested, RequestedJoin, RequestedEdit, SpellsAfter, SpellsRest, SpellsChange, SpellsRequest, SpellsVerb}
use Rattle.canvas_lines.specs.Verbs.{verb_word, verb_of}
use Rattle.canvas_lines.specs.declared.words.Verb.{Verb}
use Rattle.canvas_lines.specs.declared.words.Verb.TheVariants as verb
use Rattle.canvas_model.proofs.Cut.{cut_is, uncut, lacks_written}
use Rattle.canvas_model.proofs.Written.{id_blank, no_blank}
use Rattle.canvas_lines.proofs.Parts.{name_blank}

spaced : (a b : List ℕ) → a ++ codes " " ++ b ≡ a ++ 32 ∷ b
spaced a b = append_assoc a (32 ∷ []) b

spaced_twice : (a b c : List ℕ) → a ++ codes " " ++ b ++ codes " " ++ c ≡ a ++ 32 ∷ (b ++ 32 ∷ c)
spaced_twice a b c = simp append_assoc

pub kind_blank : (kind : Kind) → Lacks 32 (kind_word kind)
kind_blank Document = lacks_written 32 (codes "document") refl
kind_blank Page = lacks_written 32 (codes "page") refl
kind_blank Frame = lacks_written 32 (codes "frame") refl
kind_blank Shape = lacks_written 32 (codes "shape") refl
kind_blank Text = lacks_written 32 (codes "text") refl

pub verb_blank : (v : Verb) → Lacks 32 (verb_word v)
verb_blank verb.Create = lacks_written 32 (codes "create") refl
verb_blank verb.Set = lacks_written 32 (codes "set") refl
verb_blank verb.Clear = lacks_written 32 (codes "clear") refl
verb_blank verb.Move = lacks_written 32 (codes "move") refl
verb_blank verb.Delete = lacks_written 32 (codes "delete") refl

-- the verb of a word, so that no two verbs have one word
verb_back : List ℕ → Verb
verb_back word = if bytes_eq word (codes "create") then verb.Create else if bytes_eq word (codes "set") then verb.Set else if bytes_eq word (codes "clear") then verb.Clear else if bytes_eq word (codes "move") then verb.Move else verb.Delete

back_is : (v : Verb) → verb_back (verb_word v) ≡ v
unfolding verb_back
back_is verb.Create = refl
back_is verb.Set = refl
back_is verb.Clear = refl
back_is verb.Move = refl
back_is verb.Delete = refl

pub one_verb : (v w : Verb) → verb_word v ≡ verb_word w → v ≡ w
one_verb v w e = sym (back_is v) ∙ ap verb_back e ∙ back_is w

-- ---- what each verb wants
pub record IsCreation (rest : List ℕ) : Type 0 where
  pub id : ObjId
  pub kind : Kind
  pub place : Place
  pub is_id : IsId id
  pub is_place : IsSpellablePlace place
  pub text : rest ≡ id_text id ++ codes " " ++ (kind_word kind ++ 32 ∷ place_text place)

pub creation_of : (rest : List ℕ) (change : Change) → SpellsAfter verb.Create rest change → IsCreation rest
creation_of rest (Create i k p) spelled =
    record { id = i; kind = k; place = p; is_id = spelled.1.0; is_place = spelled.1.1; text = spelled.1.2 ∙ spaced_twice (id_text i) (kind_word k) (place_text p) ∙ sym (spaced (id_text i) (kind_word k ++ 32 ∷ place_text p)) }
creation_of rest (Set id name (Some value)) spelled = absurd (let f = spelled.0 in cc)
creation_of rest (Set id name None) spelled = absurd (let f = spelled.0 in cc)
creation_of rest (Move id place) spelled = absurd (let f = spelled.0 in cc)
creation_of rest (Delete id) spelled = absurd (let f = spelled.0 in cc)

pub record IsSetting (rest : List ℕ) : Type 0 where
  pub id : ObjId
  pub name : Name
  pub value : Value
  pub json : List ℕ
  pub is_id : IsId id
  pub is_name : IsName name
  pub is_shallow : IsShallow value
  pub is_value : SpellsValue json value
  pub text : rest ≡ id_text id ++ codes " " ++ (name ++ 32 ∷ json)

pub setting_of : (rest : List ℕ) (change : Change) → SpellsAfter verb.Set rest change → IsSetting rest
setting_of rest (Create i k p) spelled = absurd (let f = spelled.0 in cc)
setting_of rest (Set i n (Some v)) spelled =
    let s = spelled.1 in
    record { id = i; name = n; value = v; json = s.3; is_id = s.0; is_name = s.1; is_shallow = s.2; is_value = s.4; text = s.5 ∙ spaced_twice (id_text i) n s.3 ∙ sym (spaced (id_text i) (n ++ 32 ∷ s.3)) }
setting_of rest (Set i n None) spelled = absurd (let f = spelled.0 in cc)
setting_of rest (Move id place) spelled = absurd (let f = spelled.0 in cc)
setting_of rest (Delete id) spelled = absurd (let f = spelled.0 in cc)

pub record IsClearing (rest : List ℕ) : Type 0 where
  pub id : ObjId
  pub name : Name
  pub is_id : IsId id
  pub is_name : IsName name
  pub text : rest ≡ id_text id ++ codes " " ++ name

pub clearing_of : (rest : List ℕ) (change : Change) → SpellsAfter verb.Clear rest change → IsClearing rest
clearing_of rest (Create i k p) spelled = absurd (let f = spelled.0 in cc)
clearing_of rest (Set i n (Some v)) spelled = absurd (let f = spelled.0 in cc)
clearing_of rest (Set i n None) spelled = record { id = i; name = n; is_id = spelled.1.0; is_name = spelled.1.1; text = spelled.1.2 }
clearing_of rest (Move id place) spelled = absurd (let f = spelled.0 in cc)
clearing_of rest (Delete id) spelled = absurd (let f = spelled.0 in cc)

pub record IsMoving (rest : List ℕ) : Type 0 where
  pub id : ObjId
  pub place : Place
  pub is_id : IsId id
  pub is_place : IsSpellablePlace place
  pub text : rest ≡ id_text id ++ codes " " ++ place_text place

pub moving_of : (rest : List ℕ) (change : Change) → SpellsAfter verb.Move rest change → IsMoving rest
moving_of rest (Create i k p) spelled = absurd (let f = spelled.0 in cc)
moving_of rest (Set i n (Some v)) spelled = absurd (let f = spelled.0 in cc)
moving_of rest (Set i n None) spelled = absurd (let f = spelled.0 in cc)
moving_of rest (Move i p) spelled = record { id = i; place = p; is_id = spelled.1.0; is_place = spelled.1.1; text = spelled.1.2 }
moving_of rest (Delete id) spelled = absurd (let f = spelled.0 in cc)

pub deleted_of : (rest : List ℕ) (change : Change) → SpellsAfter verb.Delete rest change → (id : ObjId) × IsId id × (rest ≡ id_text id)
deleted_of rest (Create i k p) spelled = absurd (let f = spelled.0 in cc)
deleted_of rest (Set i n (Some v)) spelled = absurd (let f = spelled.0 in cc)
deleted_of rest (Set i n None) spelled = absurd (let f = spelled.0 in cc)
deleted_of rest (Move id place) spelled = absurd (let f = spelled.0 in cc)
deleted_of rest (Delete i) spelled = (i, spelled.1.0, spelled.1.1)

-- ---- an id before a blank
-- the id that was cut, and what follows it
pub id_cut : (rest word more : List ℕ) (id : ObjId) → IsCut 32 rest word more → word ≡ id_text id → rest ≡ id_text id ++ codes " " ++ more
id_cut rest word more id cut is = cut.parts ∙ ap (λ w. w ++ 32 ∷ more) is ∙ sym (spaced (id_text id) more)

pub no_id_uncut : (rest : List ℕ) → Lacks 32 rest → (id : ObjId) (more : List ℕ) → SpellsIdFirst rest id more → ⊥
no_id_uncut rest lacks id more spelled = uncut 32 rest (id_text id) more lacks (spelled.1 ∙ spaced (id_text id) more)

pub no_id_there : (rest word after : List ℕ) → IsCut 32 rest word after → ((id : ObjId) → IsId id × (word ≡ id_text id) → ⊥) → (id : ObjId) (more : List ℕ) → SpellsIdFirst rest id more → ⊥
no_id_there rest word after cut none id more spelled = none id (spelled.0, (cut_is 32 rest word after (id_text id) more cut (id_blank id spelled.0) (spelled.1 ∙ spaced (id_text id) more)).0)

-- what is spelled with an id first has one such id and one such rest
pub rest_is : (rest more after : List ℕ) (id other : ObjId) → IsId id → IsId other → rest ≡ id_text id ++ codes " " ++ more → rest ≡ id_text other ++ codes " " ++ after → more ≡ after
rest_is rest more after id other small small_other is is_other =
    (cut_is 32 rest (id_text id) more (id_text other) after (record { parts = is ∙ spaced (id_text id) more; first = id_blank id small }) (id_blank other small_other) (is_other ∙ spaced (id_text other) after)).1

-- ---- what is requested for, and that nothing is
module _ (rest more : List ℕ) (id : ObjId) (first : IsId id × (rest ≡ id_text id ++ codes " " ++ more)) where
  pub spells_creation : (word after : List ℕ) (kind : Kind) (place : Place) → IsCut 32 more word after → word ≡ kind_word kind → IsSpellablePlace place × (after ≡ place_text place) → SpellsAfter verb.Create rest (Create id kind place)
  spells_creation word after kind place cut is place_is = (
    refl,
    (
      first.0,
      place_is.0,
      first.1 ∙ spaced (id_text id) more ∙ ap (λ m. id_text id ++ 32 ∷ m) (cut.parts ∙ ap (λ w. w ++ 32 ∷ after) is ∙ ap (λ r. kind_word kind ++ 32 ∷ r) place_is.1)
          ∙ sym (spaced_twice (id_text id) (kind_word kind) (place_text place)),
    ),
  )

  pub spells_setting : (word after : List ℕ) (name : Name) (value : Value) → IsCut 32 more word after → IsName name × (word ≡ name) → SpellsValue after value → IsShallow value → SpellsAfter verb.Set rest (Set id name (Some value))
  spells_setting word after name value cut is value_is shallow = (
    refl,
    (
      first.0,
      is.0,
      shallow,
      after,
      value_is,
      first.1 ∙ spaced (id_text id) more ∙ ap (λ m. id_text id ++ 32 ∷ m) (cut.parts ∙ ap (λ w. w ++ 32 ∷ after) is.1)
          ∙ sym (spaced_twice (id_text id) name after),
    ),
  )

  pub spells_clearing : (name : Name) → IsName name × (more ≡ name) → SpellsAfter verb.Clear rest (Set id name None)
  spells_clearing name is = (refl, (first.0, is.0, first.1 ∙ ap (λ m. id_text id ++ codes " " ++ m) is.1))

  pub spells_moving : (place : Place) → IsSpellablePlace place × (more ≡ place_text place) → SpellsAfter verb.Move rest (Move id place)
  spells_moving place is = (refl, (first.0, is.0, first.1 ∙ ap (λ m. id_text id ++ codes " " ++ m) is.1))

  module _ (change : Change) where
    creation_rest : (c : IsCreation rest) → more ≡ kind_word c.kind ++ 32 ∷ place_text c.place
    creation_rest c = rest_is rest more _ id c.id first.0 c.is_id first.1 c.text

    pub creation_uncut : SpellsAfter verb.Create rest change → Lacks 32 more → ⊥
    creation_uncut spelled lacks = let c = creation_of rest change spelled in uncut 32 more (kind_word c.kind) (place_text c.place) lacks (creation_rest c)

    setting_rest : (c : IsSetting rest) → more ≡ c.name ++ 32 ∷ c.json
    setting_rest c = rest_is rest more _ id c.id first.0 c.is_id first.1 c.text

    pub setting_uncut : SpellsAfter verb.Set rest change → Lacks 32 more → ⊥
    setting_uncut spelled lacks = let c = setting_of rest change spelled in uncut 32 more c.name c.json lacks (setting_rest c)

    module _ (word after : List ℕ) (cut : IsCut 32 more word after) where
      creation_last : (c : IsCreation rest) → (word ≡ kind_word c.kind) × (after ≡ place_text c.place)
      creation_last c = cut_is 32 more word after (kind_word c.kind) (place_text c.place) cut (kind_blank c.kind) (creation_rest c)

      pub creation_kind : SpellsAfter verb.Create rest change → (kind : Kind) × (word ≡ kind_word kind)
      creation_kind spelled = let c = creation_of rest change spelled in (c.kind, (creation_last c).0)

      pub creation_place : SpellsAfter verb.Create rest change → (place : Place) × SpellsPlace after place
      creation_place spelled = let c = creation_of rest change spelled in (c.place, (c.is_place, (creation_last c).1))

      setting_last : (c : IsSetting rest) → (word ≡ c.name) × (after ≡ c.json)
      setting_last c = cut_is 32 more word after c.name c.json cut (name_blank c.name c.is_name) (setting_rest c)

      pub setting_name : SpellsAfter verb.Set rest change → (name : Name) × SpellsName word name
      setting_name spelled = let c = setting_of rest change spelled in (c.name, (c.is_name, (setting_last c).0))

      pub setting_value : SpellsAfter verb.Set rest change → (value : Value) × SpellsValue after value
      setting_value spelled = let c = setting_of rest change spelled in (c.value, subst (λ t. SpellsValue t c.value) (sym (setting_last c).1) c.is_value)

      pub setting_deep : ((t : List ℕ) (v w : Value) → SpellsValue t v → SpellsValue t w → v ≡ w) → (value : Value) → SpellsValue after value → (IsShallow value → ⊥) → SpellsAfter verb.Set rest change → ⊥
      setting_deep one value is deep spelled =
          let c = setting_of rest change spelled in
          deep (subst IsShallow (one after c.value value (subst (λ t. SpellsValue t c.value) (sym (setting_last c).1) c.is_value) is) c.is_shallow)

    pub clearing_name : SpellsAfter verb.Clear rest change → (name : Name) × SpellsName more name
    clearing_name spelled = let c = clearing_of rest change spelled in (c.name, (c.is_name, rest_is rest more c.name id c.id first.0 c.is_id first.1 c.text))

    pub moving_place : SpellsAfter verb.Move rest change → (place : Place) × SpellsPlace more place
    moving_place spelled = let c = moving_of rest change spelled in (c.place, (c.is_place, rest_is rest more (place_text c.place) id c.id first.0 c.is_id first.1 c.text))

-- ---- a verb and what follows it
pub change_uncut : (text : List ℕ) → Lacks 32 text → (change : Change) → SpellsChange text change → ⊥
change_uncut text lacks change spelled = uncut 32 text (verb_word (verb_of change)) spelled.0 lacks (spelled.1 ∙ spaced (verb_word (verb_of change)) spelled.0)

module _ (text word rest : List ℕ) (cut : IsCut 32 text word rest) where
  verb_is : (change : Change) (spelled : SpellsChange text change) → (word ≡ verb_word (verb_of change)) × (rest ≡ spelled.0)
  verb_is change spelled = cut_is 32 text word rest (verb_word (verb_of change)) spelled.0 cut (verb_blank (verb_of change)) (spelled.1 ∙ spaced (verb_word (verb_of change)) spelled.0)

  pub change_verb : (change : Change) → SpellsChange text change → (v : Verb) × SpellsVerb word v
  change_verb change spelled = (verb_of change, (verb_is change spelled).0)

  module _ (v : Verb) (is : word ≡ verb_word v) where
    pub spells_change : (change : Change) → SpellsAfter v rest change → SpellsChange text change
    spells_change change spelled = (rest, cut.parts ∙ ap (λ w. w ++ 32 ∷ rest) (is ∙ ap verb_word (sym spelled.0)) ∙ sym (spaced (verb_word (verb_of change)) rest), spelled.1)

    pub spelled_after : (change : Change) → SpellsChange text change → SpellsAfter v rest change
    spelled_after change spelled =
        let both = verb_is change spelled in
        (one_verb (verb_of change) v (sym both.0 ∙ is), subst (λ r. SpellsRest r change) (sym both.1) spelled.2)

edit_text : (author : ℕ) (text : List ℕ) → decimal author ++ codes " " ++ text ≡ decimal author ++ 32 ∷ text
edit_text author text = append_assoc (decimal author) (32 ∷ []) text

-- a line that isn't `join` spells an edit or nothing
module _ (line : List ℕ) (other : line ≡ codes "join" → ⊥) where
  edit_of : {C : Type 0} → ((author : ℕ) (text : List ℕ) (change : Change) → author < 2 ^ 32 → line ≡ decimal author ++ 32 ∷ text → SpellsChange text change → C) → (requested : Requested) → SpellsRequest line requested → C
  edit_of whole RequestedJoin spelled = absurd (other spelled)
  edit_of whole (RequestedEdit author change) spelled = whole author spelled.1 change spelled.0 (spelled.2 ∙ edit_text author spelled.1) spelled.3

  pub line_uncut : Lacks 32 line → (requested : Requested) → SpellsRequest line requested → ⊥
  line_uncut lacks = edit_of (λ author text change small is spelled. uncut 32 line (decimal author) text lacks is)

  module _ (word text : List ℕ) (cut : IsCut 32 line word text) where
    parts : (author : ℕ) (t : List ℕ) → author < 2 ^ 32 → line ≡ decimal author ++ 32 ∷ t → (word ≡ decimal author) × (text ≡ t)
    parts author t small is = cut_is 32 line word text (decimal author) t cut (no_blank author small) is

    pub line_author : (requested : Requested) → SpellsRequest line requested → (author : ℕ) × SpellsNumber word author
    line_author = edit_of (λ author t change small is spelled. (author, (small, (parts author t small is).0)))

    pub line_change : (requested : Requested) → SpellsRequest line requested → (change : Change) × SpellsChange text change
    line_change = edit_of (λ author t change small is spelled. (change, subst (λ t. SpellsChange t change) (sym (parts author t small is).1) spelled))

pub spells_edit : (line word text : List ℕ) (author : ℕ) (change : Change) → IsCut 32 line word text → author < 2 ^ 32 → word ≡ decimal author → SpellsChange text change → SpellsRequest line (RequestedEdit author change)
spells_edit line word text author change cut small is spelled = (small, text, cut.parts ∙ ap (λ w. w ++ 32 ∷ text) is ∙ sym (edit_text author text), spelled)
