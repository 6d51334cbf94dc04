-- AesBytes: what is a byte in AES: products in GF(2^8), round constants, the S-boxes
-- AesColumns: a column of the state by a table of words
-- AesInverse: the inverse cipher undoes the cipher, and the other way round
-- AesLengths: lengths of the AES key schedule, of the cipher and its inverse, and that they are bytes
-- AesRounds: the rounds of AES on four words
-- AesSchedule: the AES key schedule, a round key at a time
-- AesTables: the numbers of the AES code's tables follow their rules; the inverse is one; the S-boxes undo each other
-- BitWords: the bits of words, and what arithmetic on words does to them
-- Blocks: exclusive or of blocks by a loop
-- ByteLists: byte strings and their parts: each entry stays below 256
-- Chains: `chain`, the recursion of CBC and OFB
-- Ciphers: what the crates above use: the laws of ciphers, modes and folds, with nothing about a cipher left to assume
-- Compare: a comparison that gathers the differences of all bytes before it answers
-- Copies: copies into and out of a part of a list
-- DesInverse: DES deciphers what it enciphers, and the other way round; triple DES too
-- DesKeys: the DES key schedule on words
-- DesPc2: the numbers of the table PC2_ENTRIES follow their rule
-- DesRounds: the function f on words, and the rounds over a list of round keys
-- DesSp: the numbers of the table SP follow their rule
-- DesWiths: DES under the round keys of a key is DES under the key; the items that an iterator gave, as a list
-- DesWords: blocks as words; the exchanges of bits that make IP and its inverse
-- Filling: a list that a loop fills from its front
-- Folds: a block under each key of a string, and the way back
-- Linear: sums of products by fixed numbers in GF(2^8)
-- Macs: CMAC
-- ModeLaws: CBC both ways, OFB twice; lengths and bytes of both
-- Modes: a turn of each mode's loop
-- Numbers: facts about numbers
-- Parity: DES never sees the lowest bit of a key's byte
-- Subkeys: the next subkey of CMAC by arithmetic on a number of 128 bits
-- Table: a table's rule at all of its entries, by one computed test
-- Tabulation: `tab`, the list of f 0, f 1, ..
-- Words: the bytes of words of 32 bits
-- Xor: exclusive or, on numbers and on byte strings
pub mod AesBytes
pub mod AesColumns
pub mod AesInverse
pub mod AesLengths
pub mod AesRounds
pub mod AesSchedule
pub mod AesTables
pub mod BitWords
pub mod Blocks
pub mod ByteLists
pub mod Chains
pub mod Ciphers
pub mod Compare
pub mod Copies
pub mod DesInverse
pub mod DesKeys
pub mod DesPc2
pub mod DesRounds
pub mod DesSp
pub mod DesWiths
pub mod DesWords
pub mod Filling
pub mod Folds
pub mod Linear
pub mod Macs
pub mod ModeLaws
pub mod Modes
pub mod Numbers
pub mod Parity
pub mod Subkeys
pub mod Table
pub mod Tabulation
pub mod Words
pub mod Xor
