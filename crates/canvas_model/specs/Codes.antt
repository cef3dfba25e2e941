-- How proofs store the model's data: as codes that give them back.
use Rattle.std.specs.Prelude.{◌≡◌, ℕ, zero, suc, ℤ, pos, negsuc, Bool, true, false, List, [], ◌∷◌, Option, refl}
use Rattle.std.specs.Coded.{Coded, code_by, coded×, coded_ℕ, coded_list, coded_option}
use Rattle.std.specs.FinMap.{FinMap}
use Rattle.std.specs.FinMap as map
use Rattle.std.proofs.Common.{ap, ◌∙◌, sym}
use base.Stored.{Gv, gnil, gnum, gcons}
use Rattle.canvas_model.specs.declared.ObjId.{ObjId}
use Rattle.canvas_model.specs.declared.Kind.{Kind}
use Rattle.canvas_model.specs.declared.Kind.TheVariants.{Document, Page, Frame, Shape, Text}
use Rattle.canvas_model.specs.declared.Counts.{Counts}
use Rattle.canvas_model.specs.Value.{Value, number, truth, colour, text, list, Values, no_more, more}
use Rattle.canvas_model.specs.Document.{Place, Object, Doc, name_cmp}
use Rattle.canvas_model.specs.State.{State}

-- an integer as a code, and back
abbrev of_integer : ℤ → Gv
of_integer (pos n) = gnum n
of_integer (negsuc n) = gcons gnil (gnum n)

abbrev integer : Gv → ℤ
integer gnil = pos 0
integer (gnum n) = pos n
integer (gcons _ gnil) = pos 0
integer (gcons _ (gnum n)) = negsuc n
integer (gcons _ (gcons _ _)) = pos 0

integer_back : (n : ℤ) → integer (of_integer n) ≡ n
integer_back (pos n) = refl
integer_back (negsuc n) = refl

-- a truth value as a code, and back
abbrev of_truth : Bool → Gv
of_truth false = gnil
of_truth true = gnum 0

abbrev is_true : Gv → Bool
is_true gnil = false
is_true (gnum n) = true
is_true (gcons _ _) = true

truth_back : (b : Bool) → is_true (of_truth b) ≡ b
truth_back true = refl
truth_back false = refl

-- bytes as a code, and back
abbrev of_bytes : List ℕ → Gv
of_bytes [] = gnil
of_bytes (b ∷ bs) = gcons (gnum b) (of_bytes bs)

abbrev number_in : Gv → ℕ
number_in gnil = 0
number_in (gnum n) = n
number_in (gcons _ _) = 0

abbrev bytes_in : Gv → List ℕ
bytes_in gnil = []
bytes_in (gnum n) = []
bytes_in (gcons b bs) = number_in b ∷ bytes_in bs

bytes_back : (bs : List ℕ) → bytes_in (of_bytes bs) ≡ bs
bytes_back [] = refl
bytes_back (b ∷ bs) = ap (λ r. b ∷ r) (bytes_back bs)

-- a value as a code, and back
abbrev mutual
  of_value : Value → Gv
  of_value (number n) = gcons (gnum 0) (of_integer n)
  of_value (truth b) = gcons (gnum 1) (of_truth b)
  of_value (colour c) = gcons (gnum 2) (gnum c)
  of_value (text s) = gcons (gnum 3) (of_bytes s)
  of_value (list vs) = gcons gnil (of_values vs)

  of_values : Values → Gv
  of_values no_more = gnil
  of_values (more v vs) = gcons (of_value v) (of_values vs)

-- the value of this kind, which is no list
abbrev leaf : ℕ → Gv → Value
leaf zero g = number (integer g)
leaf (suc zero) g = truth (is_true g)
leaf (suc (suc zero)) g = colour (number_in g)
leaf (suc (suc (suc n))) g = text (bytes_in g)

abbrev mutual
  value_in : Gv → Value
  value_in gnil = list no_more
  value_in (gnum n) = list no_more
  value_in (gcons (gnum kind) g) = leaf kind g
  value_in (gcons gnil g) = list (values_in g)
  value_in (gcons (gcons _ _) g) = list no_more

  values_in : Gv → Values
  values_in gnil = no_more
  values_in (gnum n) = no_more
  values_in (gcons v vs) = more (value_in v) (values_in vs)

mutual
  value_back : (v : Value) → value_in (of_value v) ≡ v
  value_back (number n) = ap number (integer_back n)
  value_back (truth b) = ap truth (truth_back b)
  value_back (colour c) = refl
  value_back (text s) = ap text (bytes_back s)
  value_back (list vs) = ap list (values_back vs)

  values_back : (vs : Values) → values_in (of_values vs) ≡ vs
  values_back no_more = refl
  values_back (more v vs) = λ i. more (value_back v i) (values_back vs i)

-- two values with one code are one
pub value_one : (v w : Value) → of_value v ≡ of_value w → v ≡ w
value_one v w e = sym (value_back v) ∙ ap value_in e ∙ value_back w

-- how a value is stored
abbrev pub value_code : Coded Value
value_code = record { code = of_value; inj = value_one }

-- how an id is stored
abbrev pub id_code : Coded ObjId
id_code = code_by (ℕ × ℕ) (coded× coded_ℕ coded_ℕ) (λ i. (i.client, i.counter)) (λ p. record { client = p.0; counter = p.1 }) (λ _. refl)

-- a kind as a number, and back
abbrev kind_number : Kind → ℕ
kind_number Document = 0
kind_number Page = 1
kind_number Frame = 2
kind_number Shape = 3
kind_number Text = 4

abbrev number_kind : ℕ → Kind
number_kind zero = Document
number_kind (suc zero) = Page
number_kind (suc (suc zero)) = Frame
number_kind (suc (suc (suc zero))) = Shape
number_kind (suc (suc (suc (suc n)))) = Text

pub kind_back : (k : Kind) → number_kind (kind_number k) ≡ k
kind_back Document = refl
kind_back Page = refl
kind_back Frame = refl
kind_back Shape = refl
kind_back Text = refl

-- how a kind is stored
abbrev pub kind_code : Coded Kind
kind_code = code_by ℕ coded_ℕ kind_number number_kind kind_back

-- how a place is stored
abbrev pub place_code : Coded Place
place_code = code_by (ObjId × List ℕ) (coded× id_code (coded_list coded_ℕ)) (λ p. (p.parent, p.pos)) (λ p. record { parent = p.0; pos = p.1 }) (λ _. refl)

-- how the properties of an object are stored
abbrev pub props_code : Coded (FinMap name_cmp Value)
props_code = map.code (coded_list coded_ℕ) value_code

-- how an object is stored
abbrev pub object_code : Coded Object
object_code =
    code_by (Kind × (Option Place × FinMap name_cmp Value)) (coded× kind_code (coded× (coded_option place_code) props_code))
    (λ o. (o.kind, (o.place, o.props))) (λ p. record { kind = p.0; place = p.1.0; props = p.1.1 }) (λ _. refl)

-- how a document is stored
abbrev pub doc_code : Coded Doc
doc_code = map.code id_code object_code

-- how the counts of a client are stored
abbrev pub counts_code : Coded Counts
counts_code = code_by (ℕ × ℕ) (coded× coded_ℕ coded_ℕ) (λ c. (c.done, c.used)) (λ p. record { done = p.0; used = p.1 }) (λ _. refl)

-- how a state is stored
abbrev pub state_code : Coded State
state_code = code_by (Doc × List Counts) (coded× doc_code (coded_list counts_code)) (λ s. (s.doc, s.clients)) (λ p. record { doc = p.0; clients = p.1 }) (λ _. refl)
