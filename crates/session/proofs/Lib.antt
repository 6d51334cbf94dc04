-- AcceptedDerivation: what an accepted derivation gives; two accepted derivations of the same inputs are equal
-- Challenges: challenge calls, step by step
-- DerivationSteps: when an answer is that of a derivation's definition, step by step
-- Encoding: the session as bytes: nothing is lost, and which bytes a call changes
-- Exchanges: what two ends make of each other's challenges
-- Gathering: the keys of nodes, gathered one behind the other
-- Histories: the true count, and the number, over a session's whole history
-- KeySearch: the search for a key, an unknown algorithm, a key that stands twice
-- NodeLists: the nodes of a list, and those that bear a key
-- Nodes: the search for a node in a session's list
-- Places: the search for a node and an algorithm: the entry it meets, how many it looks at, and that those behind it play no part
-- Searches: the search of a key list as a call: its rows, its answers, and what they tell of the bytes
-- SeenKeys: what a derivation sees of the key entries, and its number past the rows 17, 1 and 2
-- SessionSteps: the session's steps: which row decides, and what is left of the session
pub mod AcceptedDerivation
pub mod Challenges
pub mod DerivationSteps
pub mod Encoding
pub mod Exchanges
pub mod Gathering
pub mod Histories
pub mod KeySearch
pub mod NodeLists
pub mod Nodes
pub mod Places
pub mod Searches
pub mod SeenKeys
pub mod SessionSteps
