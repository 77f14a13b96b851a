-- Addresses, RFC 8391, section 2.5: eight words of 4 bytes. Type and the words after it are set by their names there.
use Rattle.std.specs.Prelude.{List, ◌++◌, ℕ}
use Rattle.lists.specs.Bytes.{to_byte}
use Rattle.rfc8391.specs.declared.Address.{Address}

-- setting the type clears the four words after it
abbrev pub set_type : Address → ℕ → Address
set_type a x = record { layer = a.layer; treehigh = a.treehigh; treelow = a.treelow; kind = x; w4 = 0; w5 = 0; w6 = 0; w7 = 0 }

abbrev set_w4 : Address → ℕ → Address
set_w4 a x = record { layer = a.layer; treehigh = a.treehigh; treelow = a.treelow; kind = a.kind; w4 = x; w5 = a.w5; w6 = a.w6; w7 = a.w7 }

abbrev set_w5 : Address → ℕ → Address
set_w5 a x = record { layer = a.layer; treehigh = a.treehigh; treelow = a.treelow; kind = a.kind; w4 = a.w4; w5 = x; w6 = a.w6; w7 = a.w7 }

abbrev set_w6 : Address → ℕ → Address
set_w6 a x = record { layer = a.layer; treehigh = a.treehigh; treelow = a.treelow; kind = a.kind; w4 = a.w4; w5 = a.w5; w6 = x; w7 = a.w7 }

-- the words of a one-time address, type 0
abbrev pub set_ots_address : Address → ℕ → Address
set_ots_address = set_w4

abbrev pub set_chain_address : Address → ℕ → Address
set_chain_address = set_w5

abbrev pub set_hash_address : Address → ℕ → Address
set_hash_address = set_w6

-- of an L-tree address, type 1; the last two also of a tree address, type 2
abbrev pub set_ltree_address : Address → ℕ → Address
set_ltree_address = set_w4

abbrev pub set_tree_height : Address → ℕ → Address
set_tree_height = set_w5

abbrev pub set_tree_index : Address → ℕ → Address
set_tree_index = set_w6

-- of all three
abbrev pub set_key_and_mask : Address → ℕ → Address
set_key_and_mask a x = record { layer = a.layer; treehigh = a.treehigh; treelow = a.treelow; kind = a.kind; w4 = a.w4; w5 = a.w5; w6 = a.w6; w7 = x }

-- an address's 32 bytes
unfoldable pub address_bytes : Address → List ℕ
address_bytes a =
    to_byte a.layer 4 ++ (to_byte a.treehigh 4 ++ (to_byte a.treelow 4 ++ (to_byte a.kind 4
    ++ (to_byte a.w4 4 ++ (to_byte a.w5 4 ++ (to_byte a.w6 4 ++ to_byte a.w7 4))))))
