-- The JSON trees of what is asked of an etcd's gateway. Its keys and values are base64; where a number is 0, etcd takes it as absent.
use Rattle.std.specs.Prelude.{ℕ, Bool, List, map, codes}
use Rattle.base64.specs.Engines.{standard}
use Rattle.base64.specs.GeneralPurpose.{encode_of}
use Rattle.serde_json.specs.Data.{Data, boolean, number, unsigned, string, array, object, Items, no_items, item, no_members, member}
use Rattle.serde_json.specs.View.{items_of}
use Rattle.etcd_gateway.specs.declared.requests.KeyChange.{KeyChange}
use Rattle.etcd_gateway.specs.declared.requests.KeyChange.TheVariants.{Put, Remove}
use Rattle.etcd_gateway.specs.declared.requests.Expected.{Expected}
use Rattle.etcd_gateway.specs.declared.requests.Expected.TheVariants.{Nothing, Value}
use Rattle.etcd_gateway.specs.declared.requests.Leaf.{Leaf}
use Rattle.etcd_gateway.specs.declared.requests.Leaf.TheVariants.{Bytes, Text, Whole, Flag}

-- bytes in base64, as a text
abbrev pub base64_text : List ℕ → Data
base64_text bytes = string (encode_of standard bytes)

-- a whole number
abbrev pub whole_number : ℕ → Data
whole_number n = number (unsigned n)

-- what stands under a name
abbrev pub leaf_tree : Leaf → Data
leaf_tree (Bytes bytes) = base64_text bytes.now
leaf_tree (Text text) = string text.now
leaf_tree (Whole n) = whole_number n
leaf_tree (Flag b) = boolean b

-- the keys from one on up to another, which isn't one of them, with their values or without, at most so many where the limit isn't 0, and as they
-- stood at a revision where that isn't 0
abbrev pub range_tree : List ℕ → List ℕ → ℕ → Bool → ℕ → Data
range_tree from to limit keys_only revision =
    object (member (codes "key") (base64_text from)
    (member (codes "keys_only") (boolean keys_only)
    (member (codes "limit") (whole_number limit)
    (member (codes "range_end") (base64_text to)
    (member (codes "revision") (whole_number revision) no_members)))))

-- that a key isn't there: it was written last at revision 0
abbrev pub absent_tree : List ℕ → Data
absent_tree key =
    object (member (codes "key") (base64_text key)
    (member (codes "mod_revision") (whole_number 0)
    (member (codes "result") (string (codes "EQUAL"))
    (member (codes "target") (string (codes "MOD")) no_members))))

-- that a key has this value
abbrev pub equal_tree : List ℕ → List ℕ → Data
equal_tree key value =
    object (member (codes "key") (base64_text key)
    (member (codes "result") (string (codes "EQUAL"))
    (member (codes "target") (string (codes "VALUE"))
    (member (codes "value") (base64_text value) no_members))))

-- that a key holds what is expected
abbrev pub compare_tree : List ℕ → Expected → Data
compare_tree key Nothing = absent_tree key
compare_tree key (Value value) = equal_tree key value.now

-- that a key is read
abbrev pub read_tree : List ℕ → Data
read_tree key = object (member (codes "request_range") (object (member (codes "key") (base64_text key) no_members)) no_members)

-- that a key gets a value, and goes with a lease where that isn't 0
abbrev pub put_tree : List ℕ → List ℕ → ℕ → Data
put_tree key value lease =
    object (member (codes "request_put")
    (object (member (codes "key") (base64_text key)
    (member (codes "lease") (whole_number lease)
    (member (codes "value") (base64_text value) no_members)))) no_members)

-- that keys go, from one on up to another, which isn't one of them
abbrev pub remove_tree : List ℕ → List ℕ → Data
remove_tree from to =
    object (member (codes "request_delete_range")
    (object (member (codes "key") (base64_text from)
    (member (codes "range_end") (base64_text to) no_members))) no_members)

-- a change
abbrev pub change_tree : KeyChange → Data
change_tree (Put key value lease) = put_tree key.now value.now lease
change_tree (Remove keys) = remove_tree keys.now.from.items keys.now.to.items

-- changes, in order
abbrev pub change_items : List KeyChange → Items
change_items changes = items_of (map change_tree changes)

-- changes that are made together, where a key holds what is expected, and else the key that is read in their place
abbrev pub commit_tree : List ℕ → Expected → List KeyChange → Data
commit_tree key expected changes =
    object (member (codes "compare") (array (item (compare_tree key expected) no_items))
    (member (codes "failure") (array (item (read_tree key) no_items))
    (member (codes "success") (array (change_items changes)) no_members)))

-- a new lease of so many seconds, whose number etcd chooses
abbrev pub grant_tree : ℕ → Data
grant_tree seconds = object (member (codes "TTL") (whole_number seconds) no_members)

-- a lease, by its number
abbrev pub lease_tree : ℕ → Data
lease_tree lease = object (member (codes "ID") (whole_number lease) no_members)
