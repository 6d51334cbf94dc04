-- AesOpens: AES opening, step by step
-- AesSeals: AES sealing, step by step
-- AesTrip: sealed AES data opens as what was sealed, and nothing else opens
-- Authentications: Authentication 2, step by step
-- Corners: values that the definitions have at given places
-- DesOpens: DES opening, step by step
-- DesSeals: DES sealing, step by step
-- DesTrip: sealed DES data opens as what was sealed, and nothing else opens
-- Forecasts: the forecast is the size that sealing writes, and its refusals are those of sealing
-- Frames: `frames` and `responds`: opening exactly inverts sealing, in both schemes
-- Fronts: the front of an output, lent to a call that works on whole blocks
-- Ids: two transaction IDs are equal if their numbers are
-- MacBits: the DES MAC never sees the lowest bit of a byte
-- Paddings: the padding that an answer tells, and the payload's length from the size
-- Pads: padding
-- RegistrationPackage: registration packages, step by step
-- Responses: a parsed response and its delivery
-- Rooms: row 16 of an opening
-- Schemes: what a scheme mark chooses, and the forecast
-- Sealing: when sealing answers with the sealed data
-- Trims: trimming, and the trimmed opening
-- WorkBlocks: sealing into a work block, and what was sealed there and goes out last
pub mod AesOpens
pub mod AesSeals
pub mod AesTrip
pub mod Authentications
pub mod Corners
pub mod DesOpens
pub mod DesSeals
pub mod DesTrip
pub mod Forecasts
pub mod Frames
pub mod Fronts
pub mod Ids
pub mod MacBits
pub mod RegistrationPackage
pub mod Paddings
pub mod Pads
pub mod Responses
pub mod Rooms
pub mod Schemes
pub mod Sealing
pub mod Trims
pub mod WorkBlocks
