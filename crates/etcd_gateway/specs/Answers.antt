-- What an etcd's gateway answers, as JSON trees. Members that are 0, false or empty are left out.
use Rattle.std.specs.Prelude.{ℕ, Bool, true, false, ◌&&◌, ◌||◌, ◌==◌, List, [], ◌∷◌, codes, bytes_eq, Option, Some, None, option_map, option_and_then, map, if◌then◌else◌}
use Rattle.std.specs.Result.{result_ok}
use Rattle.base64.specs.Engines.{standard}
use Rattle.base64.specs.GeneralPurpose.{decode_of}
use Rattle.serde_json.specs.Data as D
use Rattle.serde_json.specs.Data.{Data, null, boolean, string, array, object, Items, no_items, item}
use Rattle.serde_json.specs.Find.{get, as_bool, as_str, as_array, as_u64}
use Rattle.canvas_decimals.specs.Decimals.{whole_of}
use Rattle.etcd_gateway.specs.declared.answers.Committed.{Committed}
use Rattle.etcd_gateway.specs.declared.answers.Lease.{Lease}
use Rattle.etcd_gateway.specs.declared.answers.GatewayRefusal.{GatewayRefusal}
use Rattle.etcd_gateway.specs.declared.answers.GatewayRefusal.TheVariants.{Rights, Space, Other}
use Rattle.etcd_gateway.specs.declared.answers.KeyValue.{KeyValue}
use Rattle.etcd_gateway.specs.declared.answers.Found.{Found}

-- what is read of a member, or what stands for it where it is left out
abbrev pub or_absent : {A : Type 0} → A → (Data → Option A) → Option Data → Option A
or_absent absent f None = Some absent
or_absent absent f (Some d) = f d

-- a whole number: those of 64 bits are texts of digits
abbrev pub whole_number_in : Data → Option ℕ
whole_number_in null = None
whole_number_in (boolean b) = None
whole_number_in (D.number n) = as_u64 n
whole_number_in (string s) = whole_of s
whole_number_in (array ds) = None
whole_number_in (object ms) = None

-- bytes, as a text in base64
abbrev pub base64_bytes_in : Data → Option (List ℕ)
base64_bytes_in d = option_and_then (λ text. result_ok (decode_of standard text)) (as_str d)

-- a whole number under this name
abbrev pub whole_at : List ℕ → Data → Option ℕ
whole_at name d = or_absent 0 whole_number_in (get name d)

-- bytes under this name
abbrev pub bytes_under : List ℕ → Data → Option (List ℕ)
bytes_under name d = or_absent [] base64_bytes_in (get name d)

-- whether something is true under this name
abbrev pub flag_at : List ℕ → Data → Option Bool
flag_at name d = or_absent false as_bool (get name d)

-- the revision of the store that the answer is of
abbrev pub revision_in : Data → Option ℕ
revision_in d = option_and_then (whole_at (codes "revision")) (get (codes "header") d)

-- two readings, one after the other
abbrev pub read_both : {A B C : Type 0} → (A → B → C) → Option A → Option B → Option C
read_both f None o = None
read_both f (Some a) o = option_map (f a) o

-- three readings, one after the other
abbrev pub all_three : {A B C E : Type 0} → (A → B → C → E) → Option A → Option B → Option C → Option E
all_three f None o p = None
all_three f (Some a) o p = read_both (f a) o p

-- a lease and the seconds after which it ends, which are 0 where it has ended
abbrev pub lease_in : Data → Option Lease
lease_in d = read_both (λ lease seconds. record { number = lease; seconds = seconds }) (whole_at (codes "ID") d) (whole_at (codes "TTL") d)

-- the same of an answer to what keeps a lease alive
abbrev pub kept_in : Data → Option Lease
kept_in d = option_and_then lease_in (get (codes "result") d)

-- a lease that was granted has a number
abbrev pub granted_of : Lease → Option Lease
granted_of lease = if lease.number == 0 then None else Some lease

abbrev pub granted_in : Data → Option Lease
granted_in d = option_and_then granted_of (lease_in d)

-- a text under this name
abbrev pub text_at : List ℕ → Data → Option (List ℕ)
text_at name d = or_absent [] as_str (get name d)

-- etcd's message where a user is wanted
unfoldable pub no_user : List ℕ
no_user = codes "etcdserver: user name is empty"

-- that where its quota of space is used up
unfoldable pub no_space : List ℕ
no_space = codes "etcdserver: mvcc: database space exceeded"

-- gRPC's numbers and the message for a wanted user or a denied permission
abbrev pub is_of_rights : ℕ → List ℕ → Bool
is_of_rights code message = (code == 7 || code == 16) || (code == 3 && bytes_eq message no_user)

-- those for a quota of space that is used up
abbrev pub is_of_space : ℕ → List ℕ → Bool
is_of_space code message = code == 8 && bytes_eq message no_space

-- the reason for which a call was refused, by such a number and a message
abbrev pub refusal_by_code : ℕ → List ℕ → GatewayRefusal
refusal_by_code code message = if is_of_rights code message then Rights else if is_of_space code message then Space else Other

abbrev pub refusal_in : Data → Option GatewayRefusal
refusal_in d = read_both refusal_by_code (option_and_then whole_number_in (get (codes "code") d)) (text_at (codes "message") d)

-- a key, its value, and the revision at which it was written last
pub record Pair : Type 0 where
  pub key : List ℕ
  pub value : List ℕ
  pub revision : ℕ

-- a key with its value, where it was asked for
abbrev pub pair_in : Data → Option Pair
pair_in d =
    all_three (λ key value revision. record { key = key; value = value; revision = revision }) (bytes_under (codes "key") d) (bytes_under (codes "value") d)
    (whole_at (codes "mod_revision") d)

-- each of some members, read in turn
abbrev pub read_each_item : {A : Type 0} → (Data → Option A) → Items → Option (List A)
read_each_item f no_items = Some []
read_each_item f (item d ds) = read_both (λ a rest. a ∷ rest) (f d) (read_each_item f ds)

-- the members of an array under this name
abbrev pub items_at : List ℕ → Data → Option Items
items_at name d = or_absent no_items as_array (get name d)

-- the first of some members
abbrev pub first_of : Items → Option Data
first_of no_items = None
first_of (item d ds) = Some d

-- the first member of an array under this name
abbrev pub first_at : List ℕ → Data → Option Data
first_at name d = option_and_then first_of (items_at name d)

-- the keys that were read in place of changes
abbrev pub instead_in : Data → Option (List Pair)
instead_in d =
    option_and_then (λ range. option_and_then (read_each_item pair_in) (items_at (codes "kvs") range))
    (option_and_then (get (codes "response_range")) (first_at (codes "responses") d))

-- whether changes were made, and the keys that were read in their place where they weren't
pub record TransactionOutcome : Type 0 where
  pub done : Bool
  pub found : List Pair

abbrev pub refused_with : List Pair → TransactionOutcome
refused_with pairs = record { done = false; found = pairs }

-- what is said by whether they were made
abbrev pub outcome_in : Data → Bool → Option TransactionOutcome
outcome_in d true = Some (record { done = true; found = [] })
outcome_in d false = option_map refused_with (instead_in d)

abbrev pub committed_in : Data → Option TransactionOutcome
committed_in d = option_and_then (outcome_in d) (flag_at (codes "succeeded") d)

-- the keys that were found, in their order, whether there are more of them, and the revision of the store
pub record Range : Type 0 where
  pub pairs : List Pair
  pub more : Bool
  pub revision : ℕ

-- what an answer to a request for keys says
abbrev pub range_in : Data → Option Range
range_in d =
    all_three (λ pairs more revision. record { pairs = pairs; more = more; revision = revision }) (option_and_then (read_each_item pair_in) (items_at (codes "kvs") d))
    (flag_at (codes "more") d) (revision_in d)

-- what contracts see of a key with its value
abbrev pub seen_pair : KeyValue → Pair
seen_pair pair = record { key = pair.key.items; value = pair.value.items; revision = pair.revision }

-- what contracts see of the keys that were found
abbrev pub seen_range : Found → Range
seen_range found = record { pairs = map seen_pair found.pairs.items; more = found.more; revision = found.revision }

-- what contracts see of whether changes were made
abbrev pub seen_committed : Committed → TransactionOutcome
seen_committed committed = record { done = committed.done; found = map seen_pair committed.found.items }
